-- A slot decided where it stands: the law that tests on its parts are what `is_slot` says.
-- Assumes nothing.
use Prim.Native.Nat.{ℕ, ◌+◌, ◌*◌}
use Rattle.std.specs.Prelude.{Bool, ◌&&◌, ◌||◌, eqb, leb}
use mathlib.Core.List.{List}
use Rattle.std.proofs.Math.ListN.{get_or, take, drop}
use Rattle.texts.specs.Lists.{every}
use Rattle.texts.specs.Text.{is, low, is_word}
use Rattle.slots_spec.specs.Slot.{is_folded}

-- the word is folded, unless the entry is exact
unfoldable pub is_stored : List ℕ → Bool
is_stored r = eqb (get_or r 52 0) 1 || is_folded (take (get_or r 3 0) (drop 4 r))

-- tag, word and phone count are those of an entry that fits
unfoldable pub is_key : List ℕ → Bool
is_key r = low (get_or r 2 0) && is_word (take (get_or r 3 0) (drop 4 r)) && is_stored r && leb (get_or r 51 0) 24

-- the bytes past the word, 53 to 63, and those past the phones are zero, and byte 52 is 0 or 1
unfoldable pub is_blank : List ℕ → Bool
is_blank r =
    every (is 0) (drop (4 + get_or r 3 0) (take 51 r)) && leb (get_or r 52 0) 1 && every (is 0) (drop 53 (take 64 r))
    && every (is 0) (drop (64 + 16 * get_or r 51 0) r)

-- the cells that are used
unfoldable pub used_cells : List ℕ → List ℕ
used_cells r = take (16 * get_or r 51 0) (drop 64 r)

-- a cell's length is at most 15, and the bytes past its text are zero
unfoldable pub is_tidy : List ℕ → Bool
is_tidy c = leb (get_or c 0 0) 15 && every (is 0) (drop (1 + get_or c 0 0) c)
