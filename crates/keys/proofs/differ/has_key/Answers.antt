-- `keys::has_key` meets its contract: none of the entries passed has the key, so those left behind q decide. Assumes nothing.
use Rattle.std.proofs.Common.{arith, ◌≡◌, ◌+◌, ◌-◌, sym, ◌∙◌}
use Rattle.store_spec.proofs.Laws.Turns.{has_turn, has_hit, has_stop, has_end}
use Rattle.store_spec.specs.Store.{next, entry_at, same_key}
use Rattle.keys.proofs.differ.has_key.Goals as goal

pub returns-then-q-eq0 : goal.returns-then-q-eq0
returns-then-q-eq0 c =
    let b = c.args.store.now in
    let l = c.loop in
    sym (l.invariant.0 ∙ has_stop (next b) (entry_at b) (same_key (entry_at b c.args.p)) (c.args.n - l.counter) l.q (sym c.next-q.ensures.0 ∙ c.if-q-eq0.true))

pub returns-then-is_wanted : goal.returns-then-is_wanted
unfolding same_key entry_at
returns-then-is_wanted c =
    let b = c.args.store.now in
    let p = c.args.p in
    let l = c.loop in
    let q = c.next-q.result in
    let k : c.is_wanted.result ≡ same_key (entry_at b p) (entry_at b q) = c.is_wanted.ensures ∙ rw (c.is_exact.ensures, c.word.ensures, c.tag.ensures, c.slot-slot.ensures, c.slot.ensures) in
    sym (l.invariant.0 ∙ has_hit (next b) (entry_at b) (same_key (entry_at b p)) (c.args.n - l.counter) l.q q (omega arith) c.next-q.ensures.0 c.if-q-eq0.false (sym k ∙ c.if-is_wanted.true))

pub loop-preserved : goal.loop-preserved
unfolding same_key entry_at
loop-preserved c =
    let b = c.args.store.now in
    let p = c.args.p in
    let l = c.loop in
    let q = c.next-q.result in
    let k : c.is_wanted.result ≡ same_key (entry_at b p) (entry_at b q) = c.is_wanted.ensures ∙ rw (c.is_exact.ensures, c.word.ensures, c.tag.ensures, c.slot-slot.ensures, c.slot.ensures) in
    let e : c.args.n - l.counter - 1 ≡ c.args.n - (l.counter + 1) = omega arith in
    (rw (← e) (l.invariant.0 ∙ has_turn (next b) (entry_at b) (same_key (entry_at b p)) (c.args.n - l.counter) l.q q (omega arith) c.next-q.ensures.0 c.if-q-eq0.false (sym k ∙ c.if-is_wanted.false)), c.next-q.ensures.1)

pub returns : goal.returns
returns c =
    let b = c.args.store.now in
    let l = c.loop in
    sym (l.invariant.0 ∙ has_end (next b) (entry_at b) (same_key (entry_at b c.args.p)) (c.args.n - l.counter) l.q (omega arith))
