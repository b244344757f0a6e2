-- An accepted preview leaves a spare with the text's entries added in turn and the count seen; one that stops at a line, the largest
-- count; any other the spare as it was.
-- Assumes nothing.
use Rattle.std.specs.Prelude.{ℕ, ◌≡◌, true, false, List, eqb, length}
use Rattle.texts.specs.Text.{ascii}
use Rattle.data.specs.Sections.{is_phone_table}
use Rattle.lines.specs.Lines.{lines}
use Rattle.store_spec.specs.Store.{is_sound}
use Rattle.addtext_spec.specs.Filling.{line_entries}
use Rattle.addtext_spec.specs.Grown.{Grown, Stopped}
use Rattle.preview_entries.specs.PreviewEntries.{preview_entries, spare_after}

-- what the tests of the whole say where they pass
pub record Read (table store spare text : List ℕ) : Type 0 where
  pub tabled : is_phone_table table ≡ true
  pub stored : is_sound store ≡ true
  pub alike : eqb (length spare) (length store) ≡ true
  pub low : ascii text ≡ true

module _ (table store spare text : List ℕ) where
  -- how a preview ends
  pub data Ends : Type 0 where
    whole : (preview_entries table store spare text).refusal ≡ 0 → Grown store (spare_after table store spare text) (line_entries (lines text)) → Ends
    stopped : eqb (preview_entries table store spare text).refusal 0 ≡ false → Stopped store (spare_after table store spare text) → Ends
    unread : eqb (preview_entries table store spare text).refusal 0 ≡ false → spare_after table store spare text ≡ spare → Ends
