-- 01, Store and sheet, and 02, S-9: what a sound sheet is, said of its words, syllables and phones, for any numbering; `is_sound` decides it.
-- Assumes nothing.
use Rattle.std.specs.Prelude.{ℕ, ◌≤◌, ◌<◌, ◌≡◌, ◌≢◌, true, List, reverse, length}
use Rattle.records.specs.Records.{record_at}
use Rattle.records.specs.Chain.{All, Distinct, Linked}
use Rattle.items_spec.specs.Item.{is_item, is_head}
use Rattle.utterance_spec.specs.Tree.{WordAt, phones_at, items_at, Sung, Tree, prev, follow}
use Rattle.utterance_spec.specs.Sheet.{at, used, items, version, is_sheet_length}

-- an item of a sheet: numbered 1 to used, and sound by itself
pub record Placed (b : List ℕ) (n : ℕ) : Type 0 where
  pub real : n ≢ 0
  pub inside : n ≤ used b
  pub sound : is_item (record_at 64 b n) ≡ true

-- there are words, syllables and phones, `used` different items numbered 1 to used, linked as a tree; each
-- syllable has a stress of the sheet's version, and a phone; the phones are chained in that order and in its reverse
pub record Sound (b : List ℕ) : Type 0 where
  pub size : is_sheet_length (length b) ≡ true
  pub head : is_head (record_at 64 b 0) ≡ true
  pub room : used b < items b
  pub words : List WordAt
  pub tree : Tree (at b) words
  pub all : length (items_at words) ≡ used b
  pub once : Distinct (items_at words)
  pub each : All (Placed b) (items_at words)
  pub sung : Sung (at b) (version b) words
  pub onwards : Linked (follow (at b)) 0 (phones_at words)
  pub backwards : Linked (prev (at b)) 0 (reverse (phones_at words))
