-- 02, S-12: what an accepted write leaves. The chain is sound, the named setting has the value handed in, and every other setting has the value it had.
-- Assumes nothing.
use Rattle.std.specs.Prelude.{ℕ, Option, Some, None, ◌<◌, ◌≡◌, refl, ◌≢◌, true, false, not, ◌&&◌, ◌||◌, List, [], ◌∷◌, eqb}
use Rattle.std.proofs.Common.{sym, ◌∙◌, ne_eqb}
use Rattle.std.proofs.Math.Path.{ap}
use Rattle.std.specs.Float.{nan, binary32}
use Rattle.std.specs.Float.Ieee.{of_bits}
use Rattle.texts.specs.Choice.{cases, never, both_true}
use Rattle.texts.specs.Text.{bytes, same, same_true}
use Rattle.records.specs.Fields.{u32_at, put32}
use Rattle.values.specs.declared.Setting.{Setting}
use Rattle.values.specs.declared.Setting.TheVariants.{Whole, Real}
use Rattle.values.specs.declared.Known.{Known}
use Rattle.values.specs.declared.Known.TheVariants.{Pitch, Stretch, Level}
use Rattle.values.specs.Values.{whole_of, setting_of, fits, fits_known, known_as, is_known}
use Rattle.values.specs.Laws.Bits.{nan_never}
use Rattle.settings_spec.specs.Settings.{name_at, kind_at, value_at, order, is_sound, named, record_of, value_of, pitch_of, stretch_of, level_of, all_fit}
use Rattle.settings_spec.proofs.Written.{written_sound, written_here, written_other}
use Rattle.write_setting.specs.WriteSetting.{write_setting}
use Rattle.write_setting.specs.Given.{allowed, given_after}

-- a record that is found has the name
named_name : (b name is : List ℕ) → named b name is ≢ 0 → name_at b (named b name is) ≡ name
unfolding named
named_name b name [] h = absurd (h refl)
named_name b name (i ∷ is) h =
    cases (same name (name_at b i))
    (λ e. rw e (sym (same_true name (name_at b i) e)))
    (λ e. let g : named b name is ≢ 0 = rw e at h in let ih = named_name b name is g in rw e ih)

-- a setting has one kind
unfoldable of_kind : Option Known → ℕ → Setting
of_kind (Some Pitch) m = Whole (whole_of m)
of_kind (Some Stretch) m = Real (of_bits binary32 m)
of_kind (Some Level) m = Whole (whole_of m)
of_kind None m = Real nan

kind_of : (known : Option Known) (kind n m : ℕ) → fits_known known (setting_of kind n) ≡ true → setting_of kind m ≡ of_kind known m
unfolding setting_of of_kind
kind_of None kind n m h = never false h refl
kind_of (Some known) kind n m h =
    cases (eqb kind 1)
    (λ e. let g : fits known (Whole (whole_of n)) ≡ true = rw e at h in rw e (whole known g))
    (λ e. cases (eqb kind 2)
    (λ d. let g : fits known (Real (of_bits binary32 n)) ≡ true = rw (e, d) at h in rw (e, d) (real known g))
    (λ d. let g : fits known (Real nan) ≡ true = rw (e, d) at h in never (fits known (Real nan)) g (nan_never known)))
  where
    whole : (k : Known) → fits k (Whole (whole_of n)) ≡ true → Whole (whole_of m) ≡ of_kind (Some k) m
    whole Pitch g = refl
    whole Stretch g = never false g refl
    whole Level g = refl

    real : (k : Known) → fits k (Real (of_bits binary32 n)) ≡ true → Real (of_bits binary32 m) ≡ of_kind (Some k) m
    real Pitch g = never false g refl
    real Stretch g = refl
    real Level g = never false g refl

-- what a known setting is now fits it
present : (v : ℕ) (b name : List ℕ) → is_known (known_as v name) ≡ true → record_of b name ≢ 0 → all_fit v b ≡ true
    → fits_known (known_as v name) (setting_of (kind_at b (record_of b name)) (u32_at b (value_at (record_of b name)))) ≡ true
unfolding known_as all_fit pitch_of stretch_of level_of value_of
present v b name k r a =
    let s = both_true (fits Pitch (pitch_of b) && fits Stretch (stretch_of b)) (not (eqb v 2) || fits Level (level_of b)) a in
    let t = both_true (fits Pitch (pitch_of b)) (fits Stretch (stretch_of b)) s.0 in
    cases (same (bytes "pitch") name)
    (λ p. let e = same_true (bytes "pitch") name p in
    let g : fits Pitch (setting_of (kind_at b (record_of b name)) (u32_at b (value_at (record_of b name)))) ≡ true = rw (e, ne_eqb (record_of b name) 0 r) at t.0 in
    rw p g)
    (λ p. cases (same (bytes "stretch") name)
    (λ q. let e = same_true (bytes "stretch") name q in
    let g : fits Stretch (setting_of (kind_at b (record_of b name)) (u32_at b (value_at (record_of b name)))) ≡ true = rw (e, ne_eqb (record_of b name) 0 r) at t.1 in
    rw (p, q) g)
    (λ q. cases (eqb v 2 && same (bytes "level") name)
    (λ l. let m = both_true (eqb v 2) (same (bytes "level") name) l in
    let e = same_true (bytes "level") name m.1 in
    let f : fits Level (level_of b) ≡ true = rw m.0 at s.1 in
    let g : fits Level (setting_of (kind_at b (record_of b name)) (u32_at b (value_at (record_of b name)))) ≡ true = rw (e, ne_eqb (record_of b name) 0 r) at f in
    rw (p, q, l) g)
    (λ l. let z : false ≡ true = rw (p, q, l) at k in never false z refl)))

module _ (v : ℕ) (b name : List ℕ) (kind bits : ℕ) (h : eqb (write_setting v b name (setting_of kind bits)).refusal 0 ≡ true) where
  -- the store at exit: the four bytes of the record
  left : given_after v b name kind bits ≡ put32 b (value_at (record_of b name)) bits
  unfolding given_after
  left = rw h

  pub accepted_sound : is_sound (given_after v b name kind bits) ≡ true
  accepted_sound = rw left (written_sound b name bits (allowed v b name (setting_of kind bits) h).sound)

  pub accepted_here : (missing : Setting) → bits < 4294967296 → value_of (given_after v b name kind bits) name missing ≡ setting_of kind bits
  accepted_here missing small =
      let a = allowed v b name (setting_of kind bits) h in
      let i = record_of b name in
      let k = kind_of (known_as v name) (kind_at b i) (u32_at b (value_at i)) bits (present v b name a.known a.there a.fit) in
      rw left (written_here b name bits missing a.sound a.there small ∙ k ∙ sym (kind_of (known_as v name) kind bits bits a.right))

  pub accepted_other : (other : List ℕ) (missing : Setting) → other ≢ name
      → value_of (given_after v b name kind bits) other missing ≡ value_of b other missing
  unfolding record_of
  accepted_other other missing n =
      let a = allowed v b name (setting_of kind bits) h in
      let apart : record_of b other ≢ record_of b name = (λ z.
      n (sym (named_name b other (order b) (λ y. a.there (sym z ∙ y))) ∙ ap (name_at b) z ∙ named_name b name (order b) a.there)) in
      rw left (written_other b name other bits missing a.sound apart)
