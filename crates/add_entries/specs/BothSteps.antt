-- 02, S-2: add text is both steps together. Where it is accepted they are, one behind the other, and leave what it leaves; and the other way round.
-- Assumes nothing.
use Rattle.std.specs.Prelude.{ℕ, ◌≡◌, List}
use Rattle.answers.specs.Told.{accepted}
use Rattle.preview_entries.specs.PreviewEntries.{preview_entries, spare_after as spare_previewed}
use Rattle.accept_entries.specs.AcceptEntries.{accept_entries, store_after as store_accepted}
use Rattle.add_entries.specs.AddEntries.{add_entries, store_after, spare_after}

-- the two steps, from store and spare as add text finds them
pub record Together (table store spare text : List ℕ) : Type 0 where
  pub first : (preview_entries table store spare text).refusal ≡ 0
  pub same_lines : (preview_entries table store spare text).value ≡ (add_entries table store spare text).value
  pub same_spare : spare_previewed table store spare text ≡ spare_after table store spare text
  pub second : accept_entries store (spare_after table store spare text) ≡ accepted 0 0
  pub same_store : store_accepted store (spare_after table store spare text) ≡ store_after table store spare text
