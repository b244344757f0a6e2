-- 01, Store and sheet, and 02, S-8: a sound slot in the papers' words, byte by byte. `Decided` shows that `is_slot` says the same.
-- Assumes nothing.
use Rattle.std.specs.Prelude.{ℕ, ◌+◌, ◌*◌, ◌≤◌, ◌<◌, ◌≡◌, List, length, get_or}
use Rattle.texts.specs.Text.{folded}
use Rattle.records.specs.Between.{Zero, Low}

-- the bytes from a on and before b are as case folding leaves them
abbrev pub Folded : List ℕ → ℕ → ℕ → Type 0
Folded r a b = (i : ℕ) → a ≤ i → i < b → folded (get_or r i 0) ≡ get_or r i 0

-- a phone's cell at a place, a length and 15 bytes: at most 15 of them are the text, each below 128; those past it are zero
pub record SoundCell (r : List ℕ) (at : ℕ) : Type 0 where
  pub short : get_or r at 0 ≤ 15
  pub low : Low r (at + 1) (at + 1 + get_or r at 0)
  pub past_text : Zero r (at + 1 + get_or r at 0) (at + 16)

-- a slot: tag 2, word length 3, word 4–50, phone count 51, exact 52, 24 cells from 64. The tag is below 128; the word is at most 47 bytes, each below 128;
-- there are at most 24 phones; byte 52 is 0 or 1, and where it is 0 the word is folded; the bytes past the word, those that no field has (53 to 63) and the
-- cells past the count are zero
pub record SoundSlot (r : List ℕ) : Type 0 where
  pub size : length r ≡ 512
  pub low_tag : get_or r 2 0 < 128
  pub short_word : get_or r 3 0 ≤ 47
  pub low_word : Low r 4 (4 + get_or r 3 0)
  pub past_word : Zero r (4 + get_or r 3 0) 51
  pub few_phones : get_or r 51 0 ≤ 24
  pub zero_or_one : get_or r 52 0 ≤ 1
  pub folded_word : get_or r 52 0 ≡ 0 → Folded r 4 (4 + get_or r 3 0)
  pub unnamed : Zero r 53 64
  pub phones : (k : ℕ) → k < get_or r 51 0 → SoundCell r (64 + 16 * k)
  pub past_phones : Zero r (64 + 16 * get_or r 51 0) 512
