-- `addenda::count` meets its contract: the count in the row's ninth byte is at most eight. Assumes nothing.
use Rattle.std.proofs.Common.{ℕ, List, ap, ◌∙◌, get_or, arith}
use Rattle.addenda.specs.Laws.Rows.{row_count, row_few}
use Rattle.addenda.proofs.count.Goals as goal

pub returns : goal.returns
returns c =
    let e = c.from.ensures ∙ ap (λ (l : List ℕ). get_or l 8 0) c.addenda_row.ensures ∙ row_count c.args.n c.requires in
    let f = row_few c.args.n c.requires in
    (e, omega arith)
