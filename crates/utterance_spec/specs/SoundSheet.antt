-- 01, Store and sheet, and 02, S-9: a sound sheet's length in the paper's words, which `is_sheet_length` decides in both directions; and that its
-- items, and item 0, are sound ones, and each syllable's stress one of the sheet's version.
-- Assumes nothing.
use Rattle.std.specs.Prelude.{ℕ, ◌≤◌, List, [], ◌∷◌, get_or}
use Rattle.records.specs.Records.{record_at}
use Rattle.records.specs.Chain.{All}
use Rattle.versions.specs.SoundStress.{SoundStress}
use Rattle.utterance_spec.specs.Tree.{WordAt, syllables_at}

-- 64 to 65,536 bytes; a remainder behind the items is untouched
pub record SheetLength (n : ℕ) : Type 0 where
  pub from : 64 ≤ n
  pub to : n ≤ 65536

-- the byte of each syllable's stress, by the version that item 0's byte 1 holds
abbrev pub Stressed : List ℕ → ℕ → Type 0
Stressed b n = SoundStress (get_or (record_at 64 b 0) 1 0) (get_or (record_at 64 b n) 1 0)

abbrev pub AllStressed : List ℕ → List WordAt → Type 0
AllStressed b [] = Unit {0}
AllStressed b (w ∷ ws) = All (Stressed b) (syllables_at w.syllables) × AllStressed b ws
