-- The entry that is written: the tag, the word as it is given, and the phones of the cells.
-- Assumes nothing.
use Rattle.cells.specs.Cells.{phones_of}
use Rattle.slots_spec.specs.Slot.{Entry}
use Rattle.slots.specs.declared.entry.NewEntry.{NewEntry}

abbrev pub given : NewEntry → Entry
given e = record { tag = e.tag; word = e.word.now; phones = phones_of e.phones.now; exact = e.exact }
