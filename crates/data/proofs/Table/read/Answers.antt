-- `data::Table::read` meets its contract: the places are those of the table that was read. Assumes nothing.
use Rattle.std.proofs.Common.{sym, ◌∙◌}
use Rattle.data.specs.Places.{Placed}
use Rattle.data.proofs.Table.read.Goals as goal

pub invariant_of-result : goal.invariant_of-result
unfolding Placed
invariant_of-result c =
    let t = sym c.read_table.ensures.value ∙ c.if-not-read_table.false in
    record { is_table = t; placed = (c.read_table.ensures.placed t).1 }
