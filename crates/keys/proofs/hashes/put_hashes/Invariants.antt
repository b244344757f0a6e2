-- `keys::put_hashes` meets its contract: the hashes written and those of the entries left are all hashes. Assumes nothing.
use Rattle.std.proofs.Common.{◌≡◌, ◌<◌, ◌-◌, ◌++◌, length, map, take}
use Rattle.records.specs.Chain.{chain}
use Rattle.store_spec.specs.Store.{next}
use Rattle.store_spec.specs.Laws.Hashes.{hash_at}
use Rattle.keys.proofs.hashes.put_hashes.Given as goal

abbrev pub invariant-loop-j : goal.invariant-loop-j
invariant-loop-j l =
    (l.p < 65536) × (length l.hashes ≡ length l.initial.hashes)
    × (take l.j l.hashes ++ map (hash_at l.store) (chain (next l.store) (l.n - l.j) l.p) ≡ map (hash_at l.store) (chain (next l.store) l.n 0))
