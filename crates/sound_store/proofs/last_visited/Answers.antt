-- `sound_store::last_visited` meets its contract: the end of the chain is the end of what is left behind p. Assumes nothing.
use Rattle.std.proofs.Common.{arith, ◌≡◌, ◌+◌, ◌-◌, sym, ◌∙◌}
use Rattle.store_spec.proofs.Laws.Turns.{end_turn, end_stop, end_end}
use Rattle.store_spec.specs.Store.{next}
use Rattle.sound_store.proofs.last_visited.Goals as goal

pub returns-then-q-eq0 : goal.returns-then-q-eq0
returns-then-q-eq0 c =
    let l = c.loop in
    sym (l.invariant.0 ∙ end_stop (next c.args.store.now) (c.args.n - l.counter) l.p (sym c.next-q.ensures.0 ∙ c.if-q-eq0.true))

pub loop-preserved : goal.loop-preserved
loop-preserved c =
    let l = c.loop in
    let n = c.args.n in
    let e : n - l.counter - 1 ≡ n - (l.counter + 1) = omega arith in
    (l.invariant.0 ∙ rw (← e) (end_turn (next c.args.store.now) (n - l.counter) l.p c.next-q.result (omega arith) c.next-q.ensures.0 c.if-q-eq0.false), c.next-q.ensures.1)

pub returns : goal.returns
returns c =
    let l = c.loop in
    sym (l.invariant.0 ∙ end_end (next c.args.store.now) (c.args.n - l.counter) l.p (omega arith))
