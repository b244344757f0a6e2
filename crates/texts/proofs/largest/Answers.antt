-- `texts::largest` meets its contract: the largest byte passed and the bytes left decide. Assumes nothing.
use Rattle.std.proofs.Common.{arith, sym, ◌∙◌}
use Rattle.texts.specs.Laws.Largest.{largest_start, largest_turn, largest_end}
use Rattle.texts.proofs.largest.Goals as goal

pub loop-b-init : goal.loop-b-init
loop-b-init c = largest_start c.args.s.now

pub loop-b-preserved : goal.loop-b-preserved
loop-b-preserved c =
    let l = c.loop-b in
    l.invariant ∙ largest_turn c.args.s.now l.m l.b-index (omega arith) ∙ rw c.larger-m.ensures

pub returns : goal.returns
returns c =
    let l = c.loop-b in
    sym (l.invariant ∙ largest_end c.args.s.now l.m l.b-index (omega arith))
