-- `syllabify::joined` meets its contract: after i phones the front of out is those phones joined. Assumes nothing.
use Rattle.std.proofs.Common.{◌≡◌, ◌≤◌, ◌*◌, length, take}
use Rattle.cells.specs.Cells.{phones_of}
use Rattle.syllabify.specs.Syllables.{joined}
use Rattle.syllabify.proofs.joined.Given as goal

abbrev pub invariant-loop-i : goal.invariant-loop-i
invariant-loop-i l =
    (l.at ≤ 15 * l.i) × (length l.out ≡ 45) × (take l.at l.out ≡ joined (take l.i (phones_of l.rest)))
