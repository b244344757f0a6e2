-- 01, syllabify as a call: its refusals 3, 7 and 9, its answer, and the marks at exit.
-- Assumes nothing.
use Rattle.std.specs.Prelude.{ℕ, false, not, ◌||◌, List, ◌++◌, ltb, length, drop}
use Rattle.texts.specs.Choice.{when◌then◌else◌}
use Rattle.answers.specs.declared.Answer.{Answer}
use Rattle.answers.specs.Told.{refused, accepted, written}
use Rattle.cells.specs.Cells.{phones_of, ascii_phones, short_phones}
use Rattle.onsets.specs.Onsets.{onsets}
use Rattle.syllabify.specs.Syllables.{marks as marks_of}

unfoldable pub syllabify : List ℕ → List ℕ → Answer
syllabify phones marks =
    let count = length (phones_of phones) in
    when not (ascii_phones phones) then refused 3 0
    else when ltb 96 count || not (short_phones phones) then refused 7 0
    else when ltb (length marks) count then refused 9 0
    else accepted 0 count

-- the marks at exit: one a phone, and the bytes behind them as they were
unfoldable pub syllabified : List ℕ → List ℕ → List ℕ
syllabified phones marks =
    written (syllabify phones marks) marks (marks_of onsets false (phones_of phones) ++ drop (length (phones_of phones)) marks)
