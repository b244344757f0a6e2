-- `texts::smaller` meets its contract: the bytes passed are equal in both, so the rests decide. Assumes nothing.
use Rattle.std.proofs.Common.{◌≡◌, drop}
use Rattle.texts.specs.Text.{smaller}
use Rattle.texts.proofs.smaller.Given as goal

abbrev pub invariant-loop-i : goal.invariant-loop-i
invariant-loop-i l =
    smaller l.a l.b ≡ smaller (drop l.i l.a) (drop l.i l.b)
