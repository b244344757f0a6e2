-- `pipeline::cutting::put_bare` meets its contract: after i phones, dst is what pasting i cells leaves. Assumes nothing.
use Rattle.cells.specs.Cells.{cells_of}
use Rattle.pipeline_spec.proofs.Laws.BareCells.{bare_of}
use Rattle.std.proofs.Math.Seq.{paste}
use Rattle.std.proofs.Common.{◌≡◌, ◌*◌}
use Rattle.pipeline.proofs.cutting.put_bare.Given as goal

abbrev pub invariant-loop-i : goal.invariant-loop-i
invariant-loop-i l =
    l.dst ≡ paste l.initial.dst 0 (cells_of (bare_of l.version l.phones)) (16 * l.i)
