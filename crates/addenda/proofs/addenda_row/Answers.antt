-- `addenda::addenda_row` meets its contract: a row of the table is the quoted row, encoded. Assumes nothing.
use Rattle.addenda.specs.Laws.Rows.{row_at}
use Rattle.addenda.proofs.addenda_row.Goals as goal

pub returns : goal.returns
returns c = row_at c.rows.result.now c.rows.ensures c.args.n c.requires
