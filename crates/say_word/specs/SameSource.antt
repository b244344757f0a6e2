-- 02, S-6: the source of a word that was said is the one that lookup tells of it, or the letter trees where lookup tells none.
-- Assumes nothing.
use Rattle.std.specs.Prelude.{ℕ, ◌≡◌, List, eqb}
use Rattle.texts.specs.Choice.{when◌then◌else◌}
use Rattle.utterance_spec.specs.Tree.{Word, put_last}
use Rattle.utterance_spec.specs.Sheet.{page}
use Rattle.pipeline_spec.specs.Pronounced.{Sections, Spoken, barred, phones}
use Rattle.say_word.specs.SayWord.{sheet_after}

-- the source by the kind of lookup's answer: 1 runtime, 2 addenda, 3 compiled; where it is 0, none, the letter trees
abbrev pub source_by : ℕ → ℕ
source_by kind = when eqb kind 0 then 4 else kind

-- the word that stands last on the sheet, and its source
pub record Sourced (c : Sections) (store sheet word tag : List ℕ) (kind : ℕ) : Type 0 where
  pub last : Word
  pub reads : page (sheet_after c store sheet word tag) ≡ put_last last (page sheet)
  pub source : last.source ≡ source_by kind

-- phones are no refusal, and have a source
abbrev pub HasPhones : Spoken → Type 0
HasPhones (barred n) = ⊥
HasPhones (phones source place ps) = Unit {0}

abbrev pub source_in : Spoken → ℕ
source_in (barred n) = 0
source_in (phones source place ps) = source
