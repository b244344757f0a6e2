-- `texts::smaller` meets its contract: the bytes passed are equal in both, so the rests decide. Assumes nothing.
use Rattle.std.proofs.Common.{ℕ, List, ◌≡◌, ◌≤◌, ◌<◌, arith, sym, ap, ◌∙◌, length, drop, ltb-true, ltb-false}
use Rattle.std.specs.Prelude.{ltb}
use borrow.Author.Tests.{le-ltb}
use Rattle.texts.specs.Choice.{cases}
use Rattle.texts.specs.Text.{smaller, smaller_turn, smaller_stop, smaller_long, smaller_end}
use Rattle.texts.proofs.smaller.Goals as goal

-- where one of them ends, their lengths decide
ended : (a b : List ℕ) (i : ℕ) → i ≤ length a → (i < length a → length b ≤ i) → i ≤ length b → smaller (drop i a) (drop i b) ≡ ltb (length a) (length b)
ended a b i h k l =
    cases (ltb i (length a))
    (λ e. let u = ltb-true i (length a) e in smaller_long a b i u (k u) ∙ sym (le-ltb (length a) (length b) (omega (arith, k u))))
    (λ e. let n : i ≡ length a = omega (arith, ltb-false i (length a) e) in smaller_end a b i (omega arith) ∙ ap (λ (m : ℕ). ltb m (length b)) n)

pub returns-then-a-i : goal.returns-then-a-i
returns-then-a-i c =
    let l = c.loop-i in
    let a = c.args in
    sym (l.invariant ∙ smaller_stop a.a.now a.b.now l.i (omega arith) (omega arith) c.if-a-i.true)

pub loop-i-preserved : goal.loop-i-preserved
loop-i-preserved c =
    let l = c.loop-i in
    let a = c.args in
    l.invariant ∙ smaller_turn a.a.now a.b.now l.i (omega arith) (omega arith) c.if-a-i.false

pub returns : goal.returns
returns c =
    let l = c.loop-i in
    let a = c.args in
    sym (l.invariant ∙ ended a.a.now a.b.now l.i (omega arith) (λ u. omega arith) (omega arith))
