-- 01, Store and sheet, and 02, S-6 and S-9: a sound item in the papers' words, byte by byte and kind by kind, and item 0. `Decided` shows that `is_item`
-- and `is_head` say the same.
-- Assumes nothing.
use Rattle.std.specs.Prelude.{ℕ, ◌+◌, ◌≤◌, ◌≡◌, List, get_or}
use Rattle.records.specs.Between.{Zero, Low}
use Rattle.versions.specs.SoundStress.{SoundVersion}

-- a text, its length at 16 and its bytes from 17 on: at most so many, each below 128; the bytes past it are zero
pub record SoundText (r : List ℕ) (most : ℕ) : Type 0 where
  pub short : get_or r 16 0 ≤ most
  pub low : Low r 17 (17 + get_or r 16 0)
  pub past_text : Zero r (17 + get_or r 16 0) 64

-- where a word came from (02, S-6)
pub data SoundSource (s : ℕ) : Type 0 where
  runtime : s ≡ 1 → SoundSource s
  addenda : s ≡ 2 → SoundSource s
  compiled : s ≡ 3 → SoundSource s
  letter_trees : s ≡ 4 → SoundSource s

-- a word: kind 1, its source at 15, a text of at most 47 bytes; stress 1, the phone links 10–13, and 14, which no field has, are zero
pub record SoundWord (r : List ℕ) : Type 0 where
  pub kind : get_or r 0 0 ≡ 1
  pub no_stress : get_or r 1 0 ≡ 0
  pub no_phone_links : Zero r 10 14
  pub unnamed : get_or r 14 0 ≡ 0
  pub source : SoundSource (get_or r 15 0)
  pub text : SoundText r 47

-- a syllable: kind 2; it has no phone links, no source and no text. Its stress is judged with the sheet's version (SoundSheet in crates/utterance_spec)
pub record SoundSyllable (r : List ℕ) : Type 0 where
  pub kind : get_or r 0 0 ≡ 2
  pub no_phone_links : Zero r 10 14
  pub unnamed : get_or r 14 0 ≡ 0
  pub no_source : get_or r 15 0 ≡ 0
  pub no_text : Zero r 16 64

-- a phone: kind 3, a text of at most 15 bytes; it has no stress, no children and no source
pub record SoundPhone (r : List ℕ) : Type 0 where
  pub kind : get_or r 0 0 ≡ 3
  pub no_stress : get_or r 1 0 ≡ 0
  pub no_children : Zero r 4 8
  pub unnamed : get_or r 14 0 ≡ 0
  pub no_source : get_or r 15 0 ≡ 0
  pub text : SoundText r 15

-- an item is one of the three
pub data SoundItem (r : List ℕ) : Type 0 where
  word : SoundWord r → SoundItem r
  syllable : SoundSyllable r → SoundItem r
  phone : SoundPhone r → SoundItem r

-- item 0: its fields are byte 1, a known version, and bytes 4 to 13; the others are zero
pub record SoundHead (r : List ℕ) : Type 0 where
  pub kind : get_or r 0 0 ≡ 0
  pub version : SoundVersion (get_or r 1 0)
  pub no_next : Zero r 2 4
  pub behind : Zero r 14 64
