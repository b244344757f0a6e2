-- `store::chain::add` meets its contract: behind the slot that the search tells stands the key's entry, or nothing. Assumes nothing.
use Rattle.std.proofs.Common.{arith, ◌≡◌, ◌≢◌, ◌≤◌, ℕ, false, List, sym, ◌∙◌, length}
use Rattle.slots_spec.specs.Slot.{Entry}
use Rattle.store_spec.proofs.Laws.Placed.{at, full_new, kept_new, full_known, kept_known}
use Rattle.store_spec.proofs.Laws.Cut.{last_cut}
use Rattle.store_spec.proofs.Result.{few, last_within}
use Rattle.store_spec.proofs.Sound.{sound}
use Rattle.store_spec.specs.Adding.{seek, entry_for}
use Rattle.store_spec.specs.Store.{next, last, used, is_wanted}
use Rattle.store.proofs.chain.add.Goals as goal

-- the search over the n slots that are used
over_used : (b : List ℕ) (wanted : Entry → _) (n p : ℕ) → n ≡ used b → p ≡ seek b wanted n 0 → p ≡ seek b wanted (used b) 0
over_used b wanted n p u e = rw (← u) e

pub add_new-requires : goal.add_new-requires
add_new-requires c =
    let b = c.args.store.now in
    let s = sound b c.requires in
    let l = last_within b s in
    let n = few (length b) s.size in
    let r = s.room in
    (c.used-n.ensures.0, omega arith, omega arith)

pub returns-then-q-eq0 : goal.returns-then-q-eq0
unfolding entry_for
returns-then-q-eq0 c =
    let b = c.args.store.now in
    let e = c.args.entry.now in
    let s = sound b c.requires in
    let t = over_used b (is_wanted e.exact false e.word.now e.tag) c.used-n.result c.seek-p.result c.used-n.ensures.0 c.seek-p.ensures.0 in
    let z = sym c.next-q.ensures.0 ∙ c.if-q-eq0.true in record {
      value = c.add_new.ensures.value ∙ rw (full_new b e.tag e.word.now e.phones.now e.exact s c.seek-p.result t z);
      store_after = c.add_new.ensures.store_after ∙ rw (kept_new b e.tag e.word.now e.phones.now e.exact s c.seek-p.result t z);
    }

pub cut_out-requires : goal.cut_out-requires
cut_out-requires c =
    let b = c.args.store.now in
    let e = c.args.entry.now in
    let s = sound b c.requires in
    let t = over_used b (is_wanted e.exact false e.word.now e.tag) c.used-n.result c.seek-p.result c.used-n.ensures.0 c.seek-p.ensures.0 in
    let p = (at b e.tag e.word.now e.phones.now e.exact s c.seek-p.result t).at in
    let r = s.room in
    (omega arith, c.seek-p.ensures.1)

pub tie-requires : goal.tie-requires
tie-requires c =
    let b = c.args.store.now in
    let e = c.args.entry.now in
    let s = sound b c.requires in
    let t = over_used b (is_wanted e.exact false e.word.now e.tag) c.used-n.result c.seek-p.result c.used-n.ensures.0 c.seek-p.ensures.0 in
    let h = at b e.tag e.word.now e.phones.now e.exact s c.seek-p.result t in
    let r = s.room in
    let n = few (length b) s.size in
    let q = h.behind in
    let k = c.cut_out.auto.store in
    let l = last_cut b c.seek-p.result (used b) h.at (last_within b s) (omega arith) (omega arith) in
    let m : last c.cut_out.new.store ≤ used b = rw c.cut_out.ensures l in
    (omega arith, omega arith, omega arith)

pub returns : goal.returns
unfolding entry_for
returns c =
    let b = c.args.store.now in
    let e = c.args.entry.now in
    let s = sound b c.requires in
    let t = over_used b (is_wanted e.exact false e.word.now e.tag) c.used-n.result c.seek-p.result c.used-n.ensures.0 c.seek-p.ensures.0 in
    let q = c.next-q.ensures.0 in
    let ne : next b c.seek-p.result ≢ 0 = λ z. c.if-q-eq0.false (q ∙ z) in record {
      value = rw (full_known b e.tag e.word.now e.phones.now e.exact s c.seek-p.result t ne);
      store_after = c.tie.ensures ∙ rw (c.cut_out.ensures, q, kept_known b e.tag e.word.now e.phones.now e.exact s c.seek-p.result t ne);
    }
