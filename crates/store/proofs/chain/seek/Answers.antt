-- `store::seek` meets its contract: none of the entries passed is wanted, so the search goes on behind p. Assumes nothing.
use Rattle.std.proofs.Common.{arith, ◌≡◌, ◌+◌, ◌-◌, sym, ◌∙◌}
use Rattle.store_spec.proofs.Laws.Turns.{seek_turn, seek_hit, seek_stop, seek_end}
use Rattle.store.specs.Wanting.{wants}
use Rattle.store_spec.specs.Store.{entry_at}
use Rattle.store.proofs.chain.seek.Goals as goal
use Rattle.store.proofs.chain.seek.Goals.{then-q-eq0-via-then-q-eq0, then-q-eq0-via-else-q-eq0+then-is_wanted}

pub returns-then-q-eq0 : goal.returns-then-q-eq0
unfolding entry_at
returns-then-q-eq0 c =
    let a = c.args in
    let l = c.loop in
    let b = a.store.now in
    let wanted = wants a.wanted.now in
    elim c.then-q-eq0.branch [
      | then-q-eq0-via-then-q-eq0 w ↦ (sym (l.invariant.0 ∙ seek_stop b wanted (a.n - l.counter) l.p (sym c.next-q.ensures.0 ∙ w.if-q-eq0.true)), l.invariant.1)
      | then-q-eq0-via-else-q-eq0+then-is_wanted w ↦
          (sym (l.invariant.0 ∙ seek_hit b wanted (a.n - l.counter) l.p c.next-q.result (omega arith) c.next-q.ensures.0 w.if-q-eq0.false (rw (← w.slot.ensures) (sym w.is_wanted.ensures ∙ w.if-is_wanted.true))), l.invariant.1)
    ]

pub loop-preserved : goal.loop-preserved
unfolding entry_at
loop-preserved c =
    let a = c.args in
    let l = c.loop in
    let b = a.store.now in
    let wanted = wants a.wanted.now in
    let e : a.n - l.counter - 1 ≡ a.n - (l.counter + 1) = omega arith in
    (rw (← e) (l.invariant.0 ∙ seek_turn b wanted (a.n - l.counter) l.p c.next-q.result (omega arith) c.next-q.ensures.0 c.if-q-eq0.false (rw (← c.slot.ensures) (sym c.is_wanted.ensures ∙ c.if-is_wanted.false))), c.next-q.ensures.1)

pub returns : goal.returns
returns c =
    let a = c.args in
    let l = c.loop in
    (sym (l.invariant.0 ∙ seek_end a.store.now (wants a.wanted.now) (a.n - l.counter) l.p (omega arith)), l.invariant.1)
