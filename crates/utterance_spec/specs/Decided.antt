-- 01, Store and sheet, and 02, S-9: `is_sound` decides whether a sheet is sound.
-- Assumes nothing.
use Rattle.std.specs.Prelude.{ℕ, ◌≡◌, true, List, length}
use Rattle.texts.specs.Lists.{every}
use Rattle.records.specs.Chain.{All, Linked}
use Rattle.utterance_spec.specs.Sheet.{at, used, version, after, is_sung, is_chained, is_placed}

-- what the test says of items in reading order
pub record Tested (b : List ℕ) (xs : List ℕ) : Type 0 where
  pub linked : Linked (after (at b)) 0 xs
  pub all : length xs ≡ used b
  pub each : All (λ (i : ℕ). is_placed b i ≡ true) xs
  pub sung : every (is_sung (at b) (version b)) xs ≡ true
  pub chained : is_chained (at b) 0 xs ≡ true
