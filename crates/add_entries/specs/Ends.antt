-- A text that is taken whole leaves a sound store with its entries added in turn and the count one higher, and a spare that differs in the count only.
-- One that stops at a line leaves the store, and a spare with the largest count; any other leaves both.
-- Assumes nothing.
use Rattle.std.specs.Prelude.{ℕ, ◌+◌, ◌≡◌, true, false, List, eqb, length}
use Rattle.texts.specs.Text.{ascii}
use Rattle.data.specs.Sections.{is_phone_table}
use Rattle.lines.specs.Lines.{lines}
use Rattle.store_spec.specs.Store.{is_sound, count, with_count, largest}
use Rattle.addtext_spec.specs.Filling.{text_filled, line_entries}
use Rattle.addtext_spec.specs.Grown.{Grown, Stopped}
use Rattle.add_entries.specs.AddEntries.{add_entries, store_after, spare_after}

-- what the tests of the whole say where they pass
pub record Read (table store spare text : List ℕ) : Type 0 where
  pub tabled : is_phone_table table ≡ true
  pub stored : is_sound store ≡ true
  pub alike : eqb (length spare) (length store) ≡ true
  pub rises : eqb (count store) largest ≡ false
  pub low : ascii text ≡ true

-- what a text that is taken whole leaves
pub record Taken (table store spare text : List ℕ) : Type 0 where
  pub tests : Read table store spare text
  pub clean : (text_filled table store text).answer.refusal ≡ 0
  pub grown : Grown store (text_filled table store text).store (line_entries (lines text))
  pub store_is : store_after table store spare text ≡ with_count (text_filled table store text).store (count store + 1)
  pub spare_is : spare_after table store spare text ≡ (text_filled table store text).store

module _ (table store spare text : List ℕ) where
  -- how add text ends
  pub data Ends : Type 0 where
    whole : (add_entries table store spare text).refusal ≡ 0 → Taken table store spare text → Ends
    stopped : eqb (add_entries table store spare text).refusal 0 ≡ false → store_after table store spare text ≡ store
        → Stopped store (spare_after table store spare text) → Ends
    unread : eqb (add_entries table store spare text).refusal 0 ≡ false → store_after table store spare text ≡ store
        → spare_after table store spare text ≡ spare → Ends
