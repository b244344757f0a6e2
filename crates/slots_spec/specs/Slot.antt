-- 01, Store and sheet, and 02, S-8: an entry of the store, and the slot of 512 bytes that holds it.
-- Assumes nothing.
use Prim.Native.Nat.{ℕ, ◌-◌, ◌*◌, ◌%◌, ◌/◌, ◌≤◌}
use Rattle.std.specs.Prelude.{◌≡◌, Bool, true, not, ◌&&◌, ◌||◌, eqb, leb, get_or, take}
use mathlib.Core.List.{List, [], ◌∷◌, ◌++◌}
use Rattle.std.proofs.Math.ListN.{length, drop, replicate}
use Rattle.texts.specs.Choice.{bit}
use Rattle.texts.specs.Lists.{every}
use Rattle.texts.specs.Text.{folded, low, is_word, same, is_phone}
use Rattle.records.specs.Fields.{u16_at}
use Rattle.cells.specs.Cells.{phones_of, cells_of}

-- an entry: a tag, a word, its phones, and whether it is exact, that is, matches only the word's own bytes (02, S-8)
pub record Entry : Type 0 where
  pub tag : ℕ
  pub word : List ℕ
  pub phones : List (List ℕ)
  pub exact : Bool

-- an entry that is not exact is ordinary
unfoldable pub is_ordinary : Entry → Bool
is_ordinary e = not e.exact

-- a byte, and a word, that case folding leaves as it is
unfoldable pub is_small : ℕ → Bool
is_small b = eqb (folded b) b

unfoldable pub is_folded : List ℕ → Bool
is_folded w = every is_small w

-- what an entry of a store may be: the word folded unless it is exact, lengths and counts fit, texts and tag below 128
unfoldable pub fits : Entry → Bool
fits e = low e.tag && is_word e.word && (e.exact || is_folded e.word) && leb (length e.phones) 24 && every is_phone e.phones

-- the slot of an entry: next 0–1, tag 2, word length 3, word 4–50, phone count 51, exact 52, phones from 64, each a length and 15 bytes; zeros elsewhere
unfoldable pub slot : ℕ → Entry → List ℕ
slot next e =
    (next % 256 ∷ next / 256 ∷ []) ++ (e.tag ∷ []) ++ (length e.word ∷ [])
    ++ e.word ++ replicate (47 - length e.word) 0
    ++ (length e.phones ∷ []) ++ (bit e.exact ∷ []) ++ replicate 11 0
    ++ cells_of e.phones ++ replicate (448 - 16 * length e.phones) 0

-- the entry that a slot holds
unfoldable pub entry_of : List ℕ → Entry
entry_of r =
    record {
      tag = get_or r 2 0;
      word = take (get_or r 3 0) (drop 4 r);
      phones = phones_of (take (16 * get_or r 51 0) (drop 64 r));
      exact = eqb (get_or r 52 0) 1;
    }

-- a slot is sound by itself if it is that of the entry which it holds, and the entry fits
unfoldable pub is_slot : List ℕ → Bool
is_slot r = fits (entry_of r) && same r (slot (u16_at r 0) (entry_of r))

-- what `fits` says, part by part
pub record Fits (e : Entry) : Type 0 where
  pub low_tag : low e.tag ≡ true
  pub a_word : is_word e.word ≡ true
  pub small : (e.exact || is_folded e.word) ≡ true
  pub few : length e.phones ≤ 24
  pub texts : every is_phone e.phones ≡ true
