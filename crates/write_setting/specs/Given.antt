-- 02, S-12: write setting as C has it, where the four value bytes become the bits handed in.
-- Assumes nothing.
use Rattle.std.specs.Prelude.{ℕ, ◌<◌, ◌≡◌, refl, ◌≢◌, true, false, not, ◌&&◌, List, eqb}
use Rattle.std.proofs.Common.{eqb-true}
use Rattle.std.proofs.lemmas.Bool.{eqb-false, not-true}
use Rattle.texts.specs.Choice.{cases, never, both_true}
use Rattle.answers.specs.Told.{written}
use Rattle.values.specs.declared.Setting.{Setting}
use Rattle.values.specs.Values.{setting_of, fits_known as fits, known_as, is_known}
use Rattle.values.specs.Laws.Bits.{fit_bits}
use Rattle.records.specs.Fields.{put32}
use Rattle.settings_spec.specs.Settings.{is_sound, record_of, value_at, all_fit, store_refusal}
use Rattle.sound_settings.specs.Laws.Checked.{sound_checked}
use Rattle.write_setting.specs.WriteSetting.{written_if, write_setting, settings_after}

unfoldable pub given_after : ℕ → List ℕ → List ℕ → ℕ → ℕ → List ℕ
given_after v b name kind bits = written (write_setting v b name (setting_of kind bits)) b (put32 b (value_at (record_of b name)) bits)

-- where a write is accepted, every condition holds
pub record Allowed (v : ℕ) (b name : List ℕ) (value : Setting) : Type 0 where
  pub sound : is_sound b ≡ true
  pub known : is_known (known_as v name) ≡ true
  pub there : record_of b name ≢ 0
  pub fit : all_fit v b ≡ true
  pub right : fits (known_as v name) value ≡ true

pub allowed : (v : ℕ) (b name : List ℕ) (value : Setting) → eqb (write_setting v b name value).refusal 0 ≡ true → Allowed v b name value
unfolding write_setting written_if
allowed v b name value h =
    cases (eqb (store_refusal v b) 0)
    (λ e.
    cases (is_known (known_as v name) && not (eqb (record_of b name) 0))
    (λ k. cases (all_fit v b && fits (known_as v name) value)
    (λ a.
    let x = both_true (is_known (known_as v name)) (not (eqb (record_of b name) 0)) k in
    let y = both_true (all_fit v b) (fits (known_as v name) value) a in
    let s = sound_checked v b (eqb-true (store_refusal v b) 0 e) in
    let r = eqb-false (record_of b name) 0 (not-true (eqb (record_of b name) 0) x.1) in
    record { sound = s; known = x.0; there = r; fit = y.0; right = y.1 })
    (λ a. let z : false ≡ true = rw (e, k, a) at h in never false z refl))
    (λ k. let z : false ≡ true = rw (e, k) at h in never false z refl))
    (λ e. let z : eqb (store_refusal v b) 0 ≡ true = rw e at h in never (eqb (store_refusal v b) 0) z e)

pub given_after_lem : (v : ℕ) (b name : List ℕ) (kind bits : ℕ) → bits < 4294967296 → settings_after v b name (setting_of kind bits) ≡ given_after v b name kind bits
unfolding settings_after given_after
given_after_lem v b name kind bits h =
    cases (eqb (write_setting v b name (setting_of kind bits)).refusal 0)
    (λ e. let f = fit_bits (known_as v name) kind bits h (allowed v b name (setting_of kind bits) e).right in rw (e, f))
    (λ e. rw e)
