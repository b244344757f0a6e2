-- `addenda::put_phones` meets its contract: after i phones, out is what pasting i cells leaves. Assumes nothing.
use Rattle.std.proofs.Common.{◌≡◌, ◌*◌, get_or}
use Rattle.std.proofs.Math.Seq.{paste}
use Rattle.cells.specs.Cells.{cells_of}
use Rattle.addenda.specs.Addenda.{addenda, no_addendum}
use Rattle.addenda.proofs.put_phones.Given as goal

abbrev pub invariant-loop-i : goal.invariant-loop-i
invariant-loop-i l =
    l.out ≡ paste l.initial.out 0 (cells_of (get_or addenda l.n no_addendum).phones) (16 * l.i)
