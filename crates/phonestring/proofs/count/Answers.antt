-- `phonestring::count` meets its contract: the bytes counted and those of the string behind p are all. Assumes nothing.
use Rattle.std.proofs.Common.{arith, ap, ◌≡◌, ◌+◌, ◌-◌, length, List, ℕ, length-append}
use Rattle.utterance_spec.specs.Sheet.{used}
use Rattle.phonestring.specs.Laws.Turns.{gap, rest, rest_all, rest_stop, rest_end, count_turn, gap_short, text_short}
use Rattle.phonestring.proofs.count.Goals as goal

pub loop-init : goal.loop-init
loop-init c =
    let b = c.args.sheet.now in
    let z : used b - 0 ≡ used b = omega arith in
    (rw (z, ← rest_all b) (omega arith), omega arith)

pub returns-then-q-eq0 : goal.returns-then-q-eq0
returns-then-q-eq0 c =
    let b = c.args.sheet.now in
    let l = c.loop in
    let e : length (rest b (used b - l.counter) l.p) ≡ 0 = rw (rest_stop b (used b - l.counter) l.p c.follow-q.result c.follow-q.ensures c.if-q-eq0.true) in
    omega arith

pub overflow_add-n : goal.overflow_add-n
overflow_add-n c =
    let t = ap (λ (s : List ℕ). length s) c.text.ensures in
    omega (arith, text_short c.args.sheet.now c.follow-q.result, gap_short c.loop.p)

pub overflow_add-n-in-loop : goal.overflow_add-n-in-loop
overflow_add-n-in-loop c =
    let t = ap (λ (s : List ℕ). length s) c.text.ensures in
    omega (arith, text_short c.args.sheet.now c.follow-q.result, gap_short c.loop.p)

pub loop-preserved : goal.loop-preserved
loop-preserved c =
    let b = c.args.sheet.now in
    let l = c.loop in
    let s = c.text.result.now in
    let u = c.used-end.ensures in
    let t = ap (λ (s : List ℕ). length s) c.text.ensures in
    let e = count_turn b (used b - l.counter) l.p c.follow-q.result s (omega arith) c.follow-q.ensures c.if-q-eq0.false c.text.ensures in
    let k : used b - l.counter - 1 ≡ used b - (l.counter + 1) = omega arith in
    let n = length-append (gap l.p) s in
    (rw (← k) (omega arith), omega (arith, text_short b c.follow-q.result, gap_short l.p))

pub returns : goal.returns
returns c =
    let b = c.args.sheet.now in
    let l = c.loop in
    let u = c.used-end.ensures in
    let e : length (rest b (used b - l.counter) l.p) ≡ 0 = rw (rest_end b (used b - l.counter) l.p (omega arith)) in
    omega arith
