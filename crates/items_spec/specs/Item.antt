-- 01, Store and sheet, and 02, S-6 and S-9: an item of the sheet, 64 bytes, and what an item of each kind may be.
-- Assumes nothing.
use Rattle.std.specs.Prelude.{ℕ, ◌+◌, ◌-◌, ◌%◌, ◌/◌, Bool, ◌&&◌, List, ◌∷◌, ◌++◌, eqb, leb, length, get_or, take, drop, replicate}
use Rattle.texts.specs.Choice.{when◌then◌else◌}
use Rattle.texts.specs.Lists.{every}
use Rattle.texts.specs.Text.{ascii, is, is_word}
use Rattle.records.specs.Fields.{u16_at}
use Rattle.versions.specs.Versions.{is_sheet_version}

-- an item: its kind (1 word, 2 syllable, 3 phone), stress, next sibling, first and last child, parent, the phones before and behind it,
-- a byte that is 0 as yet, a word's source, and its text
pub record Item : Type 0 where
  pub kind : ℕ
  pub stress : ℕ
  pub next : ℕ
  pub first : ℕ
  pub last : ℕ
  pub parent : ℕ
  pub prev : ℕ
  pub follow : ℕ
  pub mark : ℕ
  pub source : ℕ
  pub text : List ℕ

-- a u16 as two bytes, the low one first, before others
abbrev pub two : ℕ → List ℕ → List ℕ
two v rest = v % 256 ∷ v / 256 ∷ rest

-- its 64 bytes: kind 0, stress 1, next sibling 2–3, first child 4–5, last child 6–7, parent 8–9, previous phone 10–11, next phone 12–13,
-- 14, source 15, text length 16, text from 17; zeros past the text
unfoldable pub item : Item → List ℕ
item i =
    i.kind ∷ i.stress ∷ two i.next (two i.first (two i.last (two i.parent (two i.prev (two i.follow
    (i.mark ∷ i.source ∷ length i.text ∷ i.text ++ replicate (47 - length i.text) 0))))))

-- the item that 64 bytes hold
unfoldable pub item_of : List ℕ → Item
item_of r =
    record {
      kind = get_or r 0 0;
      stress = get_or r 1 0;
      next = u16_at r 2;
      first = u16_at r 4;
      last = u16_at r 6;
      parent = u16_at r 8;
      prev = u16_at r 10;
      follow = u16_at r 12;
      mark = get_or r 14 0;
      source = get_or r 15 0;
      text = take (get_or r 16 0) (drop 17 r);
    }

-- the text has its place, and the bytes past it are zero
unfoldable pub is_clean : List ℕ → Bool
is_clean r = leb (get_or r 16 0) 47 && every (is 0) (drop (17 + get_or r 16 0) r)

-- where a word came from (02, S-6): 1 runtime, 2 addenda, 3 compiled, 4 letter trees
unfoldable pub is_source : ℕ → Bool
is_source s = leb 1 s && leb s 4

-- a word: its source, and its text of at most 47 bytes, each below 128; no stress, and no place among the phones
unfoldable pub is_word_item : Item → Bool
is_word_item i =
    eqb i.kind 1 && eqb i.stress 0 && eqb i.prev 0 && eqb i.follow 0 && eqb i.mark 0 && is_source i.source && is_word i.text

-- a syllable: no source, no text; which stress it may have is the sheet's version's to say (`is_sung` in crates/utterance_spec)
unfoldable pub is_syllable_item : Item → Bool
is_syllable_item i =
    eqb i.kind 2 && eqb i.prev 0 && eqb i.follow 0 && eqb i.mark 0 && eqb i.source 0 && eqb (length i.text) 0

-- a phone: its text at most 15 bytes, each below 128; no stress, no children, no source
unfoldable pub is_phone_item : Item → Bool
is_phone_item i =
    eqb i.kind 3 && eqb i.stress 0 && eqb i.first 0 && eqb i.last 0
    && eqb i.mark 0 && eqb i.source 0 && leb (length i.text) 15 && ascii i.text

-- item 0: the sheet's version, a known one, stands as its stress (02, S-9); first and last word as its children, used as its parent, the last
-- and the first phone before and behind it
unfoldable pub is_head_item : Item → Bool
is_head_item i =
    eqb i.kind 0 && is_sheet_version i.stress && eqb i.next 0 && eqb i.mark 0 && eqb i.source 0 && eqb (length i.text) 0

unfoldable pub fits : Item → Bool
fits i = when eqb i.kind 1 then is_word_item i else when eqb i.kind 2 then is_syllable_item i else is_phone_item i

-- an item, and item 0, sound by itself
unfoldable pub is_item : List ℕ → Bool
is_item r = is_clean r && fits (item_of r)

unfoldable pub is_head : List ℕ → Bool
is_head r = is_clean r && is_head_item (item_of r)
