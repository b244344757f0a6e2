-- `entryline::add_entry` meets its contract: each return is decided by the first test of the definition that fails. Assumes nothing.
use Rattle.std.proofs.Common.{arith, sym, ◌∙◌}
use Rattle.texts.specs.Text.{phone_short}
use Rattle.lines.specs.Lines.{fields}
use Rattle.addtext_spec.proofs.Laws.Phones.{may_phones}
use Rattle.entryline.proofs.add_entry.Goals as goal

pub add_fields-requires : goal.add_fields-requires
add_fields-requires c =
    let fs = fields c.args.phones.now in
    let known = sym c.may_add_fields.ensures ∙ c.if-not-may_add_fields.false in
    (c.requires.1, omega arith, omega (arith, c.count_fields.ensures), phone_short fs (may_phones c.args.table.now fs c.requires.0 known))
