-- `lts::Trees::put_letter` meets its contract: a letter's leaf is put, any other byte puts nothing. Assumes nothing.
use Rattle.std.proofs.Common.{arith, sym, ◌∙◌, Some, None}
use Rattle.data.specs.Sections.{table_fits}
use Rattle.trees.proofs.WalkLaws.{walk_leaf}
use Rattle.lts_spec.proofs.Letters.{letter_left, letter_right, letter_walked, trees_model}
use Rattle.lts.proofs.Put.{puts_none}
use Rattle.lts.proofs.Trees.put_letter.Goals as goal

pub walk-requires : goal.walk-requires
walk-requires c =
    let t = c.args.self.now in
    trees_model t.table.bytes.now t.index.now t.model.now t.are_trees

pub returns-in_err-p-in-97-to-122 : goal.returns-in_err-p-in-97-to-122
returns-in_err-p-in-97-to-122 c =
    let a = c.args in
    let t = a.self.now in
    let w = rw (c.window.ensures, c.len.ensures.0, c.u16_at-start.ensures, c.from.ensures) at c.walk.ensures in
    let e = letter_walked t.table.bytes.now t.index.now t.model.now a.text.now a.k (omega arith) (omega arith) None (sym w ∙ c.in_err-p-in-97-to-122.was) in
    rw e c.from_residual.ensures

pub phone-requires : goal.phone-requires
phone-requires c =
    let f = walk_leaf _ _ _ _ _ c.in_ok-p-in-97-to-122.p (sym c.walk.ensures ∙ c.in_ok-p-in-97-to-122.was) in
    omega (arith, f, c.len.ensures.0)

pub put_leaf-requires : goal.put_leaf-requires
put_leaf-requires c =
    let t = c.args.self.now.table in
    let p = c.in_ok-p-in-97-to-122.p in
    let f = walk_leaf _ _ _ _ _ p (sym c.walk.ensures ∙ c.in_ok-p-in-97-to-122.was) in
    let short = (table_fits t.bytes.now p t.is_table (omega (arith, f, c.len.ensures.0))).short in
    (rw c.phone.ensures short, omega arith, omega arith)

pub returns-in_ok-p-in-97-to-122 : goal.returns-in_ok-p-in-97-to-122
returns-in_ok-p-in-97-to-122 c =
    let a = c.args in
    let t = a.self.now in
    let p = c.in_ok-p-in-97-to-122.p in
    let w = rw (c.window.ensures, c.len.ensures.0, c.u16_at-start.ensures, c.from.ensures) at c.walk.ensures in
    let e = letter_walked t.table.bytes.now t.index.now t.model.now a.text.now a.k (omega arith) (omega arith) (Some p) (sym w ∙ c.in_ok-p-in-97-to-122.was) in
    rw (e, ← c.phone.ensures) c.put_leaf.ensures

pub returns-in_default : goal.returns-in_default
returns-in_default c =
    let a = c.args in
    let t = a.self.now in
    rw (letter_left t.table.bytes.now t.index.now t.model.now a.text.now a.k (omega arith)) (puts_none a.list.now a.at)

pub returns-in_default-2 : goal.returns-in_default-2
returns-in_default-2 c =
    let a = c.args in
    let t = a.self.now in
    rw (letter_right t.table.bytes.now t.index.now t.model.now a.text.now a.k (omega arith)) (puts_none a.list.now a.at)
