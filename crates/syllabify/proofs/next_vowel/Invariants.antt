-- `syllabify::next_vowel` meets its contract: no phone passed is a vowel, so the phones left decide. Assumes nothing.
use Rattle.std.proofs.Common.{◌≡◌, ◌+◌, drop}
use Rattle.texts.specs.Lists.{place}
use Rattle.cells.specs.Cells.{phones_of}
use Rattle.phoneset.specs.Phones.{is_vowel}
use Rattle.syllabify.proofs.next_vowel.Given as goal

abbrev pub invariant-loop-i : goal.invariant-loop-i
invariant-loop-i l =
    place is_vowel (phones_of l.rest) ≡ l.i + place is_vowel (drop l.i (phones_of l.rest))
