-- `addenda::put_phones` meets its contract: after i phones, out is what pasting i cells leaves. Assumes nothing.
use Rattle.std.proofs.Common.{◌≡◌, ℕ, ◌+◌, ◌*◌, List, get_or, drop, ap, ◌∙◌, arith}
use Rattle.cells.specs.Cells.{text, cells_front, cells_turn}
use Rattle.addenda.specs.Addenda.{addenda, no_addendum}
use Rattle.addenda.specs.Laws.Rows.{row_short, row_phone}
use Rattle.addenda.proofs.put_phones.Goals as goal

pub put_cell-requires : goal.put_cell-requires
put_cell-requires c =
    let i = c.loop-i.i in
    let e = c.text_at.ensures ∙ ap (λ (l : List ℕ). text (drop (9 + 4 * i) l)) c.addenda_row-row.ensures
    ∙ row_phone c.args.n c.requires.0 i (omega arith) in
    let s = row_short c.args.n c.requires.0 i (omega arith) in
    (omega arith, rw e (omega arith))

pub loop-i-preserved : goal.loop-i-preserved
loop-i-preserved c =
    let a = c.args in
    let h = c.requires.0 in
    let i = c.loop-i.i in
    let ps = (get_or addenda a.n no_addendum).phones in
    let e = c.text_at.ensures ∙ ap (λ (l : List ℕ). text (drop (9 + 4 * i) l)) c.addenda_row-row.ensures
    ∙ row_phone a.n h i (omega arith) in
    let z : 0 + i ≡ i = omega arith in
    let t = cells_turn a.out.now ps 0 i (λ j l. let s = row_short a.n h j l in omega arith) (omega arith) (omega arith) in
    c.put_cell.ensures ∙ rw (c.loop-i.invariant, e) (rw z at t)

pub returns : goal.returns
returns c =
    let a = c.args in
    let ps = (get_or addenda a.n no_addendum).phones in
    c.loop-i.invariant ∙ cells_front a.out.now ps c.loop-i.i (λ j k. let s = row_short a.n c.requires.0 j k in omega arith) (omega arith)
