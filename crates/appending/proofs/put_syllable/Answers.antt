-- `appending::put_syllable` meets its contract: the syllable's own item, then its phones. Assumes nothing.
use Rattle.std.proofs.Common.{rules, length, ◌/◌}
use Rattle.appending.specs.Laws.Putting.{syllable_written}
use Rattle.cells.specs.Cells.{phones_of}
use Rattle.appending.proofs.put_syllable.Goals as goal

pub returns : goal.returns
returns c =
    let a = c.args in
    syllable_written a.sheet.now c.put_item.new.sheet c.put_phones.new.sheet a.w a.q a.k a.stress (length a.phones.now / 16) a.left c.next_or.result c.next_or-a.result (phones_of a.phones.now) c.next_or.ensures c.next_or-a.ensures (search rules) c.put_phones.ensures
