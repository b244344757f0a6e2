-- `entryline::add_fields` meets its contract: room's front is the cells of the fields, whose phones are the fields. Assumes nothing.
use Rattle.std.proofs.Common.{◌≡◌, ◌*◌, length, take, ap, ◌∙◌}
use Rattle.addtext_spec.specs.Line.{line_entry}
use Rattle.store_spec.specs.Adding.{entry_for}
use Rattle.lines.specs.Lines.{fields}
use Rattle.cells.specs.Cells.{cells_of, phones_of, length_cells_of, phones_cells}
use Rattle.records.specs.Records.{take_front}
use Rattle.entryline.proofs.add_fields.Goals as goal

pub returns : goal.returns
unfolding line_entry entry_for
returns c =
    let fs = fields c.args.phones.now in
    let n = c.count_fields-n.ensures in
    let l = length_cells_of fs c.requires.3 in
    let cells_are : take (16 * c.count_fields-n.result) c.put_fields.new.dst ≡ cells_of fs =
    rw (n, c.put_fields.ensures) (take_front _ (cells_of fs) (16 * length fs) l) in
    let p : phones_of (take (16 * c.count_fields-n.result) c.put_fields.new.dst) ≡ fs = ap phones_of cells_are ∙ phones_cells fs c.requires.3 in
    record { value = rw (← p, ← c.added_tag.ensures) c.add_folded.ensures.value; store_after = rw (← p, ← c.added_tag.ensures) c.add_folded.ensures.store_after }
