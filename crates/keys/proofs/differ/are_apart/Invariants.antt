-- `keys::are_apart` meets its contract: each entry passed differs from all behind it, so those left behind p decide. Assumes nothing.
use Rattle.std.proofs.Common.{◌≡◌, ◌<◌, ◌-◌, drop, map}
use Rattle.records.specs.Chain.{chain}
use Rattle.store_spec.specs.Store.{next, entry_at, keys_differ}
use Rattle.store_spec.specs.Laws.Hashes.{hash_at}
use Rattle.keys.proofs.differ.are_apart.Given as goal

abbrev pub invariant-loop-i : goal.invariant-loop-i
invariant-loop-i l =
    let b = l.store in
    let left = chain (next b) (l.n - l.i) l.p in
    (keys_differ (map (entry_at b) (chain (next b) l.n 0)) ≡ keys_differ (map (entry_at b) left))
    × (l.p < 65536)
    × (drop l.i l.hashes ≡ map (hash_at b) left)
