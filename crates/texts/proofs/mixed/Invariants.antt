-- `texts::mixed` meets its contract: the number taken so far and the bytes left decide. Assumes nothing.
use Rattle.std.proofs.Common.{◌≡◌, ◌<◌, drop}
use Rattle.texts.specs.Laws.Mixed.{mixed}
use Rattle.texts.proofs.mixed.Given as goal

abbrev pub invariant-loop-b : goal.invariant-loop-b
invariant-loop-b l =
    (l.h < 65536) × (mixed l.start l.s ≡ mixed l.h (drop l.b-index l.s))
