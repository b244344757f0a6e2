-- `keys::has_key` meets its contract: none of the entries passed has the key, so those left behind q decide. Assumes nothing.
use Rattle.std.proofs.Common.{◌≡◌, ◌<◌, ◌-◌, map}
use Rattle.records.specs.Chain.{chain}
use Rattle.texts.specs.Lists.{some}
use Rattle.store_spec.specs.Store.{next, entry_at, same_key}
use Rattle.keys.proofs.differ.has_key.Given as goal

abbrev pub invariant-loop : goal.invariant-loop
invariant-loop l =
    let b = l.store in
    let key = same_key (entry_at b l.p) in
    (some key (map (entry_at b) (chain (next b) l.n l.p)) ≡ some key (map (entry_at b) (chain (next b) (l.n - l.counter) l.q))) × (l.q < 65536)
