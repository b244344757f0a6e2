-- `cells::put_phones` meets its contract: after i phones, dst is what pasting i cells leaves. Assumes nothing.
use Rattle.std.proofs.Common.{◌≡◌, ◌*◌}
use Rattle.std.proofs.Math.Seq.{paste}
use Rattle.cells.specs.Cells.{phones_of, cells_of}
use Rattle.cells.proofs.put_phones.Given as goal

abbrev pub invariant-loop-i : goal.invariant-loop-i
invariant-loop-i l =
    l.dst ≡ paste l.initial.dst (16 * l.k) (cells_of (phones_of l.list)) (16 * l.i)
