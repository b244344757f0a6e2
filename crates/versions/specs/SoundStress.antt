-- 02, S-9: a known version and a stress in the paper's words; `is_sheet_version` and `is_stress` decide them, in both directions.
-- Assumes nothing.
use Rattle.std.specs.Prelude.{ℕ, ◌≡◌}

pub data SoundVersion (v : ℕ) : Type 0 where
  first : v ≡ 1 → SoundVersion v
  second : v ≡ 2 → SoundVersion v

-- "0" and "1" in each version, and "2" in version 2
pub data SoundStress (v b : ℕ) : Type 0 where
  unstressed : b ≡ 48 → SoundStress v b
  primary : b ≡ 49 → SoundStress v b
  secondary : v ≡ 2 → b ≡ 50 → SoundStress v b
