-- `language::accepts` meets its contract: the letters passed were no vowels, so the letters left decide. Assumes nothing.
use Rattle.std.proofs.Common.{sym, ◌∙◌, refl}
use Rattle.language.proofs.Walk.{walk_on, walk_stops, walk_ends}
use Rattle.language.proofs.accepts.Goals as goal

pub loop-b-init : goal.loop-b-init
loop-b-init g c = λ word e. record { left = word; comes = rw c.into_iter-b-iterator.ensures.into_iter_gives e; decides = refl }

pub loop-b-preserved : goal.loop-b-preserved
loop-b-preserved g c = λ word e.
    walk_on _ _ _ _ _ (c.loop-b.invariant word e) c.in-Some.field-0 _ c.in-Some.ensures.steps _ (sym c.letter.ensures ∙ c.in-Continue.is)

pub returns-in-Break : goal.returns-in-Break
returns-in-Break g c = λ word e.
    sym (walk_stops _ _ _ _ _ (c.loop-b.invariant word e) c.in-Some.field-0 _ c.in-Some.ensures.steps _ (sym c.letter.ensures ∙ c.in-Break.is))

pub returns : goal.returns
returns g c = λ word e. sym (walk_ends _ _ _ _ _ (c.loop-b.invariant word e) _ c.in-None.ensures.steps)
