-- 02, S-5: what the place is where a word's letters stop. No "#" stands from there on, one stands just before it unless it is 0, and only the bytes from there on give phones.
-- Assumes nothing.
use Prim.Native.Nat.{ℕ, zero, suc, ◌+◌}
use Rattle.std.specs.Prelude.{leb}
use mathlib.Core.List.{List, []}
use Rattle.std.proofs.Math.Option.{Option, some}
use Rattle.texts.specs.Choice.{when◌then◌else◌}
use Rattle.lts_spec.specs.Letters.{letter, joined}

module _ (phones index model : List ℕ) where
  -- the phones of the first n bytes of a word, of those from place m on
  unfoldable pub letters_from : ℕ → List ℕ → ℕ → Option (List (List ℕ))
  letters_from m text zero = some []
  letters_from m text (suc n) = when leb m n then joined phones index model (letters_from m text n) (letter phones index model text (n + 4)) else some []
