-- `sound_store::walks` meets its contract: the walk so far leaves the walk from p over the slots left. Assumes nothing.
use Rattle.std.proofs.Common.{◌≡◌, ◌<◌, ◌-◌}
use Rattle.store_spec.specs.Store.{walks}
use Rattle.sound_store.proofs.walks.Given as goal

abbrev pub invariant-loop : goal.invariant-loop
invariant-loop l =
    (walks l.store l.n l.n 0 ≡ walks l.store l.n (l.n - l.counter) l.p) × (l.p < 65536)
