-- `records::copy` meets its contract: after j bytes, dst is what pasting j bytes leaves. Assumes nothing.
use Rattle.std.proofs.Common.{◌≡◌, length}
use Rattle.std.proofs.Math.Seq.{paste}
use Rattle.records.proofs.copy.Given as goal

abbrev pub invariant-loop-j : goal.invariant-loop-j
invariant-loop-j l =
    (l.dst ≡ paste l.initial.dst 0 l.src l.j) × (length l.dst ≡ length l.initial.dst)
