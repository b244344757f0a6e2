-- `syllabify::mark` meets its contract: the marks written and the marks of the phones left are all the marks. Assumes nothing.
use Rattle.std.proofs.Common.{◌≡◌, ◌++◌, false, drop, take}
use Rattle.cells.specs.Cells.{phones_of}
use Rattle.onsets.specs.Onsets.{onsets}
use Rattle.syllabify.specs.Syllables.{marks as marks_of}
use Rattle.syllabify.proofs.mark.Given as goal

abbrev pub invariant-loop-i : goal.invariant-loop-i
invariant-loop-i l =
    (marks_of onsets false (phones_of l.phones) ≡ take l.i l.marks ++ marks_of onsets l.seen (drop l.i (phones_of l.phones)))
    × (drop l.i l.marks ≡ drop l.i l.initial.marks)
