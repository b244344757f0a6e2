-- `store::seek` meets its contract: none of the entries passed is wanted, so the search goes on behind p. Assumes nothing.
use Rattle.std.proofs.Common.{◌≡◌, ◌<◌, ◌-◌}
use Rattle.store_spec.specs.Adding.{seek}
use Rattle.store.specs.Wanting.{wants}
use Rattle.store.proofs.chain.seek.Given as goal

abbrev pub invariant-loop : goal.invariant-loop
invariant-loop l =
    let wanted = wants l.wanted in
    (seek l.store wanted l.n 0 ≡ seek l.store wanted (l.n - l.counter) l.p) × (l.p < 65536)
