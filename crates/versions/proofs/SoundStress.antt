-- Theorems about `specs/SoundStress.antt`: 02, S-9: a known version and a stress in the paper's words; `is_sheet_version` and `is_stress` decide them, in both directions.
-- Assumes nothing.
use Rattle.std.specs.Prelude.{ℕ, ◌≡◌, true, eqb}
use Rattle.std.proofs.Math.Decide.{ℕ_discrete}
use Rattle.std.proofs.Common.{eqb-true}
use Rattle.texts.specs.Choice.{cases, never}
use Rattle.versions.specs.Versions.{is_sheet_version, is_stress}
use Rattle.versions.proofs.Laws.Stresses.{zero_stress, one_stress, two_stress, no_stress_lem}
use Rattle.versions.specs.SoundStress.{SoundVersion, SoundStress, first, second, unstressed, primary, secondary}

pub version_told : (v : ℕ) → is_sheet_version v ≡ true → SoundVersion v
unfolding is_sheet_version
version_told v h = cases (eqb v 1) (λ e. first (eqb-true v 1 e)) (λ e. second (eqb-true v 2 (rw e at h)))

pub told_version : (v : ℕ) → SoundVersion v → is_sheet_version v ≡ true
unfolding is_sheet_version
told_version v (first e) = rw e
told_version v (second e) = rw e

pub stress_told : (v b : ℕ) → is_sheet_version v ≡ true → is_stress v b ≡ true → SoundStress v b
stress_told v b k h = go (ℕ_discrete b 48) (ℕ_discrete b 49) (ℕ_discrete b 50) (version_told v k)
  where
    go : Dec (b ≡ 48) → Dec (b ≡ 49) → Dec (b ≡ 50) → SoundVersion v → SoundStress v b
    go (yes e) _ _ _ = unstressed e
    go (no n₀) (yes e) _ _ = primary e
    go (no n₀) (no n₁) (yes e) (first f) = never (is_stress v b) h (rw (e, f) (two_stress 1))
    go (no n₀) (no n₁) (yes e) (second f) = secondary f e
    go (no n₀) (no n₁) (no n₂) _ = never (is_stress v b) h (no_stress_lem v b n₀ n₁ n₂)

pub told_stress : (v b : ℕ) → SoundStress v b → is_stress v b ≡ true
told_stress v b (unstressed e) = rw e (zero_stress v)
told_stress v b (primary e) = rw e (one_stress v)
told_stress v b (secondary f e) = rw (e, f) (two_stress 2)
