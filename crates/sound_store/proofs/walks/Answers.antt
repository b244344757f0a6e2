-- `sound_store::walks` meets its contract: the walk so far leaves the walk from p over the slots left. Assumes nothing.
use Rattle.std.proofs.Common.{arith, ◌≡◌, ◌+◌, ◌-◌, sym, ◌∙◌}
use Rattle.records.specs.Records.{length_record_at}
use Rattle.store_spec.proofs.Laws.Turns.{walks_turn, walks_short, walks_past, walks_stop, walks_end}
use Rattle.sound_store.proofs.walks.Goals as goal
use Rattle.sound_store.proofs.walks.Goals.{then-p-eq0-via-then-p-eq0, then-p-eq0-via-else-p-eq0+then-n-p, then-p-eq0-via-else-p-eq0+else-n-p+then-not-is_slot}

pub is_slot-requires : goal.is_slot-requires
is_slot-requires c = rw c.slot.ensures (length_record_at 512 c.args.store.now c.next-p.result (omega arith))

pub returns-then-p-eq0 : goal.returns-then-p-eq0
returns-then-p-eq0 c =
    let b = c.args.store.now in
    let n = c.args.n in
    let l = c.loop in
    let left = n - l.counter in
    let q = c.next-p.result in
    elim c.then-p-eq0.branch [
      | then-p-eq0-via-then-p-eq0 w ↦ sym (l.invariant.0 ∙ walks_short b n left l.p (omega arith) (sym c.next-p.ensures.0 ∙ w.if-p-eq0.true))
      | then-p-eq0-via-else-p-eq0+then-n-p w ↦ sym (l.invariant.0 ∙ walks_past b n left l.p q (omega arith) c.next-p.ensures.0 w.if-p-eq0.false (omega arith))
      | then-p-eq0-via-else-p-eq0+else-n-p+then-not-is_slot w ↦
          sym (l.invariant.0 ∙ walks_stop b n left l.p q (omega arith) c.next-p.ensures.0 w.if-p-eq0.false (omega arith) (rw (← w.slot.ensures) (sym w.is_slot.ensures ∙ w.if-not-is_slot.true)))
    ]

pub loop-preserved : goal.loop-preserved
loop-preserved c =
    let n = c.args.n in
    let l = c.loop in
    let e : n - l.counter - 1 ≡ n - (l.counter + 1) = omega arith in
    let s = rw c.slot.ensures at (sym c.is_slot.ensures ∙ c.if-not-is_slot.false) in
    (l.invariant.0 ∙ rw (← e) (walks_turn c.args.store.now n (n - l.counter) l.p c.next-p.result (omega arith) c.next-p.ensures.0 c.if-p-eq0.false (omega arith) s), c.next-p.ensures.1)

pub returns : goal.returns
returns c =
    let l = c.loop in
    rw c.next.ensures.0 (sym (l.invariant.0 ∙ walks_end c.args.store.now c.args.n (c.args.n - l.counter) l.p (omega arith)))
