-- `texts::largest` meets its contract: the largest byte passed and the bytes left decide. Assumes nothing.
use Rattle.std.proofs.Common.{◌≡◌, drop}
use Rattle.texts.specs.Laws.Largest.{larger, largest}
use Rattle.texts.proofs.largest.Given as goal

abbrev pub invariant-loop-b : goal.invariant-loop-b
invariant-loop-b l =
    largest l.s ≡ larger l.m (largest (drop l.b-index l.s))
