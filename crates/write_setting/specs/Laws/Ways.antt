-- Each way through write setting, beside its definition.
-- Assumes nothing.
use Rattle.std.specs.Prelude.{ℕ, ◌≡◌, ◌≢◌, true, false, List}
use borrow.Author.Tests.{eq-eqb, ne_eqb}
use Rattle.records.specs.Fields.{put32}
use Rattle.answers.specs.declared.Refusal.{Refusal}
use Rattle.answers.specs.Told.{refusal_number, refused, accepted, written}
use Rattle.values.specs.declared.Setting.{Setting}
use Rattle.values.specs.Values.{fits_known as fits, known_as, is_known, bits_of}
use Rattle.settings_spec.specs.Settings.{record_of, value_at, all_fit, store_refusal}
use Rattle.sound_settings.specs.Laws.Checked.{refused_test}
use Rattle.write_setting.specs.WriteSetting.{written_if, write_setting, settings_after}

module _ (v : ℕ) (b name : List ℕ) (value : Setting) (c : List ℕ) where
  pub not_known : is_known (known_as v name) ≡ false → (refused 16 0 ≡ written_if v b name value) × (b ≡ written (written_if v b name value) b c)
  unfolding written_if
  not_known k = (rw k, rw k)

  pub no_record : is_known (known_as v name) ≡ true → record_of b name ≡ 0
      → (refused 16 0 ≡ written_if v b name value) × (b ≡ written (written_if v b name value) b c)
  unfolding written_if
  no_record k r = let e = eq-eqb (record_of b name) 0 r in (rw (k, e), rw (k, e))

  module _ (k : is_known (known_as v name) ≡ true) (r : record_of b name ≢ 0) where
    pub unfit : all_fit v b ≡ false → (refused 17 0 ≡ written_if v b name value) × (b ≡ written (written_if v b name value) b c)
    unfolding written_if
    unfit a = let e = ne_eqb (record_of b name) 0 r in (rw (k, e, a), rw (k, e, a))

    pub wrong : all_fit v b ≡ true → fits (known_as v name) value ≡ false
        → (refused 17 0 ≡ written_if v b name value) × (b ≡ written (written_if v b name value) b c)
    unfolding written_if
    wrong a f = let e = ne_eqb (record_of b name) 0 r in (rw (k, e, a, f), rw (k, e, a, f))

    pub right : all_fit v b ≡ true → fits (known_as v name) value ≡ true
        → (accepted 0 0 ≡ written_if v b name value) × (c ≡ written (written_if v b name value) b c)
    unfolding written_if
    right a f = let e = ne_eqb (record_of b name) 0 r in (rw (k, e, a, f), rw (k, e, a, f))

module _ (v : ℕ) (b : List ℕ) where
  pub write_refused : (name : List ℕ) (value : Setting) (r : Refusal) → refused (refusal_number r) 0 ≡ refused (store_refusal v b) 0
      → (refused (refusal_number r) 0 ≡ write_setting v b name value) × (b ≡ settings_after v b name value)
  unfolding write_setting settings_after
  write_refused name value r h =
      let t = refused_test r (store_refusal v b) h in
      (rw t h, rw (t, t))

  pub write_accepted : (name : List ℕ) (value : Setting) → store_refusal v b ≡ 0
      → (written_if v b name value ≡ write_setting v b name value)
      × (written (written_if v b name value) b (put32 b (value_at (record_of b name)) (bits_of value)) ≡ settings_after v b name value)
  unfolding write_setting settings_after
  write_accepted name value h = let e = eq-eqb (store_refusal v b) 0 h in (rw e, rw e)

pub ruleset ways = (not_known, no_record, unfit, wrong, right)

pub ruleset writes = (write_refused, write_accepted)
