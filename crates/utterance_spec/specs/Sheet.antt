-- 01, Store and sheet, and 02, S-9: the sheet, items of 64 bytes in lent bytes; when it is sound, and what it reads as.
-- Assumes nothing.
use Rattle.std.specs.Prelude.{ℕ, zero, suc, ◌+◌, ◌/◌, Bool, true, not, ◌&&◌, List, [], ◌∷◌, map, eqb, leb, ltb, length}
use Rattle.texts.specs.Choice.{when◌then◌else◌}
use Rattle.texts.specs.Lists.{every}
use Rattle.records.specs.Records.{record_at}
use Rattle.records.specs.Chain.{chain}
use Rattle.versions.specs.Versions.{is_stress}
use Rattle.items_spec.specs.Item.{Item, item_of, is_item, is_head}
use Rattle.utterance_spec.specs.Tree.{Word, Page, WordAt, places, word_at}

-- item n
unfoldable pub at : List ℕ → ℕ → Item
at b n = item_of (record_at 64 b n)

-- how many items are used, and how many there are, item 0 among them
abbrev pub used : List ℕ → ℕ
used b = (at b 0).parent

abbrev pub items : List ℕ → ℕ
items b = length b / 64

-- the sheet's version, byte 1 of item 0 (02, S-9)
abbrev pub version : List ℕ → ℕ
version b = (at b 0).stress

unfoldable pub is_sheet_length : ℕ → Bool
is_sheet_length n = leb 64 n && leb n 65536

-- the words that a sheet says
unfoldable pub reading : List ℕ → List Word
reading b = map (word_at (at b)) (places (at b) (used b))

-- what is read of a sheet, with the words at these places, and with those that it says
abbrev pub page_at : List ℕ → List WordAt → Page
page_at b ws = record { version = (at b 0).stress; state = (at b 0).mark; words = map (word_at (at b)) ws }

unfoldable pub page : List ℕ → Page
page b = record { version = (at b 0).stress; state = (at b 0).mark; words = reading b }

module _ (S : ℕ → Item) where
  -- the item that comes behind the children of a word, a syllable or a phone
  unfoldable pub after_syllable : ℕ → ℕ
  after_syllable y = when eqb (S y).next 0 then (S (S y).parent).next else (S y).next

  unfoldable pub after_phone : ℕ → ℕ
  after_phone x = when eqb (S x).next 0 then after_syllable (S x).parent else (S x).next

  unfoldable pub beyond : ℕ → ℕ
  beyond i = when eqb (S i).kind 3 then after_phone i else when eqb (S i).kind 2 then after_syllable i else (S i).next

  -- the next item in reading order: the first child, else what comes behind
  unfoldable pub after : ℕ → ℕ
  after i = when eqb (S i).first 0 then beyond i else (S i).first

  -- an item's child fields agree with its first child
  unfoldable pub is_parent : ℕ → Bool
  is_parent i = when eqb (S i).first 0 then eqb (S i).last 0 else eqb (S (S i).first).parent i && eqb (S (S i).first).kind ((S i).kind + 1)

  -- and with its next sibling, or with its parent where it is the last
  unfoldable pub is_sibling : ℕ → Bool
  is_sibling i = when eqb (S i).next 0 then eqb (S (S i).parent).last i else eqb (S (S i).next).parent (S i).parent && eqb (S (S i).next).kind (S i).kind

  -- a syllable has a stress of version v (02, S-9), and a phone
  unfoldable pub is_sung : ℕ → ℕ → Bool
  is_sung v i = when eqb (S i).kind 2 then is_stress v (S i).stress && not (eqb (S i).first 0) else true

  -- among items in reading order the phones, behind phone q, are chained both ways
  unfoldable pub is_chained : ℕ → List ℕ → Bool
  is_chained q [] = eqb (S q).follow 0 && eqb (S 0).prev q
  is_chained q (x ∷ xs) = when eqb (S x).kind 3 then eqb (S q).follow x && eqb (S x).prev q && is_chained x xs else is_chained q xs

-- an item of the walk: numbered 1 to used, sound by itself, its links agree
unfoldable pub is_placed : List ℕ → ℕ → Bool
is_placed b i = not (eqb i 0) && leb i (used b) && is_item (record_at 64 b i) && is_parent (at b) i && is_sibling (at b) i

-- behind item p stand n items in reading order, each well placed, and then nothing
unfoldable pub walks : List ℕ → ℕ → ℕ → Bool
walks b zero p = eqb (after (at b) p) 0
walks b (suc n) p = is_placed b (after (at b) p) && walks b n (after (at b) p)

-- all items in reading order
unfoldable pub order : List ℕ → List ℕ
order b = chain (after (at b)) (used b) 0

unfoldable pub is_sound : List ℕ → Bool
is_sound b =
    is_sheet_length (length b) && is_head (record_at 64 b 0) && ltb (used b) (items b)
    && is_parent (at b) 0 && walks b (used b) 0 && every (is_sung (at b) (version b)) (order b) && is_chained (at b) 0 (order b)
