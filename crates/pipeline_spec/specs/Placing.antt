-- 01, Store and sheet, and 02, S-9: what say word answers, and the sheet at exit, where only what the word comes to is left to decide: refusals 6, 7 and 9.
-- Assumes nothing.
use Rattle.std.specs.Prelude.{ℕ, ◌+◌, Bool, List, leb}
use Rattle.texts.specs.Choice.{when◌then◌else◌}
use Rattle.utterance_spec.specs.Tree.{Word}
use Rattle.utterance_spec.specs.Sheet.{used, items, version}
use Rattle.utterance_spec.specs.Append.{size, appended}
use Rattle.answers.specs.declared.Answer.{Answer}
use Rattle.answers.specs.Told.{refused, accepted_with, written}
use Rattle.pipeline_spec.specs.Pronounced.{Spoken, barred, phones, said}

-- the sheet has fewer unused items than a word needs (refusal 9)
abbrev pub is_crowded : List ℕ → Word → Bool
is_crowded sheet w = leb (items sheet) (used sheet + size w)

-- the answer to a word that was pronounced: where its letters stopped
abbrev pub placed : List ℕ → ℕ → Word → Answer
placed sheet place w = when is_crowded sheet w then refused 9 0 else accepted_with 0 0 place 0

-- the sheet at exit: as it was where the word is refused
abbrev pub sheet_placed : List ℕ → ℕ → Word → List ℕ
sheet_placed sheet place w = written (placed sheet place w) sheet (appended sheet w)

-- the answer, and the sheet at exit, where only what the word comes to is left to decide; the sheet's version says what a stress is
module _ (sheet word : List ℕ) where
  abbrev pub on_spoken : Spoken → Answer
  on_spoken (barred n) = refused n 0
  on_spoken (phones source place ps) = placed sheet place (said (version sheet) word source ps)

  abbrev pub with_spoken : Spoken → List ℕ
  with_spoken (barred n) = sheet
  with_spoken (phones source place ps) = appended sheet (said (version sheet) word source ps)

  -- the sheet at exit: as it was where the word is refused
  abbrev pub sheet_spoken : Spoken → List ℕ
  sheet_spoken s = written (on_spoken s) sheet (with_spoken s)
