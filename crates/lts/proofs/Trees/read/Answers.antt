-- `lts::Trees::read` meets its contract: where one of the three has not its form, they are no trees. Assumes nothing.
use Rattle.std.proofs.Common.{sym, ◌∙◌}
use Rattle.lts_spec.specs.Letters.{is_trees}
use Rattle.lts.proofs.Trees.read.Goals as goal
use Rattle.lts.proofs.Trees.read.Goals.{then-not-is_lts_index-via-then-not-is_lts_index, then-not-is_lts_index-via-else-not-is_lts_index+then-not-is_lts_model}

pub returns-in_err-table : goal.returns-in_err-table
unfolding is_trees
returns-in_err-table c = rw (c.from_residual.ensures, c.in_err-table.ensures)

pub returns-then-not-is_lts_index : goal.returns-then-not-is_lts_index
unfolding is_trees
returns-then-not-is_lts_index c =
    let t = c.in_ok-table.table in
    let e = rw c.in_ok-table.ensures at t.is_table in
    elim c.then-not-is_lts_index.branch [
      | then-not-is_lts_index-via-then-not-is_lts_index w ↦ rw (e, sym c.is_lts_index.ensures ∙ w.if-not-is_lts_index.true)
      | then-not-is_lts_index-via-else-not-is_lts_index+then-not-is_lts_model w ↦
          rw (e, sym c.is_lts_index.ensures ∙ w.if-not-is_lts_index.false, sym w.is_lts_model.ensures ∙ w.if-not-is_lts_model.true)
    ]

pub invariant_of-result : goal.invariant_of-result
unfolding is_trees
invariant_of-result c =
    let t = c.in_ok-table.table in
    record { are_trees = rw (t.is_table, sym c.is_lts_index.ensures ∙ c.if-not-is_lts_index.false, sym c.is_lts_model.ensures ∙ c.if-not-is_lts_model.false) }
