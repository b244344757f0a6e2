-- `slots::put_folded` meets its contract: after j bytes, dst is what pasting j folded bytes leaves. Assumes nothing.
use Rattle.std.proofs.Common.{◌≡◌, length, map}
use Rattle.std.proofs.Math.Seq.{paste}
use Rattle.texts.specs.Text.{folded}
use Rattle.slots.proofs.put_folded.Given as goal

abbrev pub invariant-loop-j : goal.invariant-loop-j
invariant-loop-j l =
    (l.dst ≡ paste l.initial.dst l.k (map folded l.word) l.j) × (length l.dst ≡ length l.initial.dst)
