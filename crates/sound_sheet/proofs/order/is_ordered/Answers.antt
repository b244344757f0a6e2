-- `sound_sheet::is_ordered` meets its contract: the walk so far leaves the walk from item p and phone q over the items left. Assumes nothing.
use Rattle.std.proofs.Common.{rules, arith, sym, ◌∙◌, ◌≡◌, ◌-◌, ◌+◌}
use Rattle.utterance_spec.specs.Sheet.{at, used, items}
use Rattle.utterance_spec.proofs.Laws.Turns.{ordered_turn, ordered_stop, ordered_end, met_inside, last_inside}
use Rattle.sound_sheet.proofs.order.is_ordered.Goals as goal

pub returns-then-not-is_met : goal.returns-then-not-is_met
returns-then-not-is_met c =
    let b = c.args.sheet.now in
    let l = c.loop in
    let e = c.used-end.ensures in
    sym (l.invariant.0 ∙ ordered_stop b (used b - l.counter) l.p l.q c.after-p.result (omega arith) c.after-p.ensures (sym c.is_met.ensures ∙ c.if-not-is_met.true))

pub last_phone-q-requires : goal.last_phone-q-requires
last_phone-q-requires c = met_inside c.args.sheet.now c.loop.q c.after-p.result c.requires (sym c.is_met.ensures ∙ c.if-not-is_met.false)

pub loop-preserved : goal.loop-preserved
loop-preserved c =
    let b = c.args.sheet.now in
    let l = c.loop in
    let x = c.after-p.result in
    let e = c.used-end.ensures in
    let met = sym c.is_met.ensures ∙ c.if-not-is_met.false in
    let passed = met_inside b l.q x c.requires met in
    let k : used b - l.counter - 1 ≡ used b - (l.counter + 1) = omega arith in (
      l.invariant.0 ∙ ordered_turn b (used b - l.counter) l.p l.q x c.last_phone-q.result (omega arith) c.after-p.ensures met c.last_phone-q.ensures ∙ rw k,
      passed,
      rw c.last_phone-q.ensures (last_inside (at b) (items b) l.q x l.invariant.2 passed),
    )

pub returns-then-after-eq0 : goal.returns-then-after-eq0
returns-then-after-eq0 c =
    let b = c.args.sheet.now in
    let l = c.loop in
    let e = c.used-end.ensures in
    sym (l.invariant.0 ∙ ordered_end b (used b - l.counter) l.p l.q (omega arith) ∙ rw (← c.after.ensures, c.if-after-eq0.true, ← c.is_last.ensures))

pub returns-else-after-eq0 : goal.returns-else-after-eq0
returns-else-after-eq0 c =
    let b = c.args.sheet.now in
    let l = c.loop in
    let e = c.used-end.ensures in
    sym (l.invariant.0 ∙ ordered_end b (used b - l.counter) l.p l.q (omega arith) ∙ rw (← c.after.ensures) (search rules))
