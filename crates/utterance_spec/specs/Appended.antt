-- A word put last on a sound sheet with room for it: the sheet is sound, has the same version, reads as before and then that word, the last word
-- and the last phone are tied to it, and all other items keep their bytes.
-- Assumes nothing.
use Rattle.std.specs.Prelude.{ℕ, ◌+◌, ◌≤◌, ◌<◌, ◌≡◌, ◌≢◌, List, [], ◌∷◌, ◌++◌, map, length}
use Rattle.records.specs.Fields.{put16}
use Rattle.records.specs.Records.{record_at}
use Rattle.utterance_spec.specs.Tree.{Word, phones_in, word_at}
use Rattle.utterance_spec.specs.Sheet.{at, used}
use Rattle.utterance_spec.specs.Sound.{Sound}
use Rattle.utterance_spec.specs.Append.{head_or, size, numbered, place_of}

-- what putting a word last on a sound sheet leaves
pub record Appended (b c : List ℕ) (w : Word) (s : Sound b) : Type 0 where
  pub sound : Sound c
  pub words : sound.words ≡ s.words ++ (place_of (used b + 1) w ∷ [])
  pub says : map (word_at (at c)) sound.words ≡ map (word_at (at b)) s.words ++ (w ∷ [])
  pub grown : used c ≡ used b + size w
  pub long : length c ≡ length b
  pub kept : (j : ℕ) → 1 ≤ j → j ≤ used b → j ≢ (at b 0).last → j ≢ (at b 0).prev → record_at 64 c j ≡ record_at 64 b j
  pub word : (at b 0).last ≢ 0 → record_at 64 c (at b 0).last ≡ put16 (record_at 64 b (at b 0).last) 2 (used b + 1)
  pub phone : (at b 0).prev ≢ 0 → record_at 64 c (at b 0).prev ≡ put16 (record_at 64 b (at b 0).prev) 12 (head_or 0 (phones_in (numbered (used b + 1 + 1) w.syllables)))
  pub beyond : (j : ℕ) → used b + size w < j → record_at 64 c j ≡ record_at 64 b j
