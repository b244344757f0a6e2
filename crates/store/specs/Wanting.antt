-- The entries that are wanted: exact or not, with that word, and a tag that agrees.
-- Assumes nothing.
use Rattle.std.specs.Prelude.{Bool}
use Rattle.slots_spec.specs.Slot.{Entry}
use Rattle.store_spec.specs.Store.{is_wanted}
use Rattle.store.specs.declared.fields.Wanted.{Wanted}

abbrev pub wants : Wanted → Entry → Bool
wants w = is_wanted w.exact w.any w.word.now w.tag
