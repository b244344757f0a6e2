-- `phonestring::put` meets its contract: the text alone behind item 0, else a blank and the text. Assumes nothing.
use Rattle.std.proofs.Common.{arith, ◌∙◌, ◌≡◌, ◌+◌}
use Rattle.phonestring.specs.Laws.Turns.{gap_first, gap_later, paste_first, paste_later}
use Rattle.phonestring.proofs.put.Goals as goal
use Rattle.phonestring.proofs.put.Goals.{then-p-ne0, else-p-ne0}

pub returns-clause-out_after : goal.returns-clause-out_after
returns-clause-out_after c =
    let a = c.args in
    elim c.if-p-ne0.branch [
      | then-p-ne0 w ↦
          let g : c.gap.result ≡ 1 = c.gap.ensures ∙ rw (gap_later a.p w.if-p-ne0.true) in
          c.copy_in.ensures ∙ rw (g, w.out-is) (paste_later a.out.now a.text.now a.k a.p w.if-p-ne0.true c.requires)
      | else-p-ne0 w ↦
          let g : a.k + c.gap.result ≡ a.k = rw (c.gap.ensures, gap_first a.p w.if-p-ne0.false) (omega arith) in
          c.copy_in.ensures ∙ rw (g, w.out-is) (paste_first a.out.now a.text.now a.k a.p w.if-p-ne0.false)
    ]
