-- `keys::put_hashes` meets its contract: the hashes written and those of the entries left are all hashes. Assumes nothing.
use Rattle.std.proofs.Common.{arith, ◌≡◌, ◌+◌, ◌-◌, sym, ◌∙◌, length-set, map}
use Rattle.records.specs.Chain.{chain, chain_stop, chain_end}
use Rattle.store_spec.specs.Store.{next, entry_at}
use Rattle.store_spec.specs.Laws.Hashes.{hash_at}
use Rattle.store_spec.proofs.Laws.Hashes.{hashed_turn, hashed_end}
use Rattle.keys.proofs.hashes.put_hashes.Goals as goal

pub returns-then-p-eq0 : goal.returns-then-p-eq0
returns-then-p-eq0 c =
    let l = c.loop-j in
    let b = c.args.store.now in
    let left = c.args.n - l.j in
    (omega arith, hashed_end (next b) (hash_at b) l.hashes (map (hash_at b) (chain (next b) c.args.n 0)) l.j left l.p l.invariant.2 (chain_stop (next b) left l.p (sym c.next-p.ensures.0 ∙ c.if-p-eq0.true)))

pub loop-j-preserved : goal.loop-j-preserved
unfolding hash_at entry_at
loop-j-preserved c =
    let l = c.loop-j in
    let b = c.args.store.now in
    let n = c.args.n in
    let q = c.next-p.result in
    let h : c.hash.result ≡ hash_at b q = c.hash.ensures ∙ rw c.slot.ensures in
    let e : n - l.j - 1 ≡ n - (l.j + 1) = omega arith in (
      c.next-p.ensures.1,
      simp length-set l.invariant.1,
      rw (← e) (hashed_turn (next b) (hash_at b) l.hashes (map (hash_at b) (chain (next b) n 0)) l.j (n - l.j) l.p q c.hash.result l.invariant.2 (omega arith) (omega arith) c.next-p.ensures.0 c.if-p-eq0.false h),
    )

pub returns : goal.returns
returns c =
    let l = c.loop-j in
    let b = c.args.store.now in
    let e : l.j ≡ c.args.n = omega arith in
    let t = hashed_end (next b) (hash_at b) l.hashes (map (hash_at b) (chain (next b) c.args.n 0)) l.j (c.args.n - l.j) l.p l.invariant.2 (chain_end (next b) (c.args.n - l.j) l.p (omega arith)) in
    (omega arith, rw e at t)
