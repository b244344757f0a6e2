-- `texts::mixed` meets its contract: the number taken so far and the bytes left decide. Assumes nothing.
use Rattle.std.proofs.Common.{arith, refl, sym, ◌∙◌}
use Rattle.texts.specs.Laws.Mixed.{mixed_turn, mixed_end}
use Rattle.texts.proofs.mixed.Goals as goal

pub loop-b-init : goal.loop-b-init
loop-b-init c = (omega arith, refl)

pub loop-b-preserved : goal.loop-b-preserved
loop-b-preserved c =
    let l = c.loop-b in
    (omega arith, l.invariant.1 ∙ mixed_turn l.h c.args.s.now l.b-index (omega arith))

pub returns : goal.returns
returns c =
    let l = c.loop-b in
    sym (l.invariant.1 ∙ mixed_end l.h c.args.s.now l.b-index (omega arith))
