-- `phonestring::write` meets its contract: what is left is the string behind p, from k on. Assumes nothing.
use Rattle.std.proofs.Common.{arith, refl, sym, ◌∙◌, ◌≡◌, ◌+◌, ◌-◌}
use Rattle.records.specs.Records.{paste_front}
use Rattle.utterance_spec.specs.Sheet.{used}
use Rattle.phonestring.specs.PhoneString.{string}
use Rattle.phonestring.specs.Laws.Turns.{rest, rest_all, rest_stop, rest_end, count_turn, write_turn, paste_none}
use Rattle.phonestring.proofs.write.Goals as goal

pub loop-init : goal.loop-init
loop-init c =
    let b = c.args.sheet.now in
    let z : used b - 0 ≡ used b = omega arith in
    record { string = rw (z, ← rest_all b) (sym (paste_front c.args.out.now (string b))); room = rw (z, ← rest_all b) (omega arith); out = refl }

pub returns-then-q-eq0 : goal.returns-then-q-eq0
returns-then-q-eq0 c =
    let b = c.args.sheet.now in
    let l = c.loop in
    let n = used b - l.counter in
    sym (l.invariant.string ∙ paste_none l.out (rest b n l.p) l.k (rest_stop b n l.p c.follow-q.result c.follow-q.ensures c.if-q-eq0.true))

pub put-k-requires : goal.put-k-requires
put-k-requires c =
    let b = c.args.sheet.now in
    let u = c.used-end.ensures in
    let e = count_turn b (used b - c.loop.counter) c.loop.p c.follow-q.result c.text.result.now (omega arith) c.follow-q.ensures c.if-q-eq0.false c.text.ensures in
    omega arith

pub loop-preserved : goal.loop-preserved
loop-preserved c =
    let b = c.args.sheet.now in
    let l = c.loop in
    let t = c.text.result.now in
    let n = used b - l.counter in
    let u = c.used-end.ensures in
    let k : n - 1 ≡ used b - (l.counter + 1) = omega arith in
    let e = count_turn b n l.p c.follow-q.result t (omega arith) c.follow-q.ensures c.if-q-eq0.false c.text.ensures in
    let w = write_turn b n l.p c.follow-q.result t (omega arith) c.follow-q.ensures c.if-q-eq0.false c.text.ensures l.out c.put-k.new.out l.k c.put-k.result l.invariant.room c.put-k.ensures.value c.put-k.ensures.out_after in
    record { string = l.invariant.string ∙ w ∙ rw k; room = rw (← k) (omega (arith, c.put-k.ensures.value)); out = c.put-k.auto.out ∙ l.invariant.out }

pub returns : goal.returns
returns c =
    let b = c.args.sheet.now in
    let l = c.loop in
    let u = c.used-end.ensures in
    let n = used b - l.counter in
    sym (l.invariant.string ∙ paste_none l.out (rest b n l.p) l.k (rest_end b n l.p (omega arith)))
