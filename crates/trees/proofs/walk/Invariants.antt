-- `trees::walk` meets its contract: before each turn the walk stands inside the model, and what it comes to from its node over the turns left is what it comes to. Assumes nothing.
use Rattle.std.proofs.Common.{◌≡◌, ◌-◌, ◌*◌, ◌/◌, length}
use Rattle.trees.specs.Walk.{walk}
use Rattle.trees.proofs.Turn.{Stands}
use Rattle.trees.proofs.walk.Given as goal

abbrev pub invariant-loop : goal.invariant-loop
invariant-loop l =
    Stands l.model l.at × (walk l.model l.features l.phones (length l.model / 6) l.start ≡ walk l.model l.features l.phones (l.end - l.counter) (l.at / 6))
