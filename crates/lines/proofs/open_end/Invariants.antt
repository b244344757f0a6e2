-- `lines::open_end` meets its contract: what went was quote marks, so what is left decides. Assumes nothing.
use Rattle.std.proofs.Common.{◌≡◌, length}
use Rattle.lines.specs.Lines.{open_end}
use Rattle.lines.proofs.open_end.Given as goal

abbrev pub invariant-loop-s : goal.invariant-loop-s
invariant-loop-s l = open_end l.word ≡ open_end l.s

abbrev pub decreases-loop-s : goal.decreases-loop-s
decreases-loop-s l = length l.s
