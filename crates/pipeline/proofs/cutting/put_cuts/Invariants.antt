-- `pipeline::cutting::put_cuts` meets its contract: the cuts written and the cuts of the phones left are all the cuts. Assumes nothing.
use Rattle.std.proofs.Common.{◌≡◌, ◌++◌, drop, take}
use Rattle.cells.specs.Cells.{phones_of}
use Rattle.pipeline_spec.specs.Cutting.{cuts_of}
use Rattle.pipeline.proofs.cutting.put_cuts.Given as goal

abbrev pub invariant-loop-i : goal.invariant-loop-i
invariant-loop-i l =
    (cuts_of l.version 48 l.marks (phones_of l.phones) ≡ take l.i l.dst ++ cuts_of l.version l.last (drop l.i l.marks) (drop l.i (phones_of l.phones)))
    × (drop l.i l.dst ≡ drop l.i l.initial.dst)
