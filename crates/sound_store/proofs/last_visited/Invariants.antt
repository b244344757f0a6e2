-- `sound_store::last_visited` meets its contract: the end of the chain is the end of what is left behind p. Assumes nothing.
use Rattle.std.proofs.Common.{◌≡◌, ◌<◌, ◌-◌}
use Rattle.records.specs.Chain.{chain, end_of}
use Rattle.store_spec.specs.Store.{next}
use Rattle.sound_store.proofs.last_visited.Given as goal

abbrev pub invariant-loop : goal.invariant-loop
invariant-loop l =
    (end_of 0 (chain (next l.store) l.n 0) ≡ end_of l.p (chain (next l.store) (l.n - l.counter) l.p)) × (l.p < 65536)
