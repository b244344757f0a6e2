-- 01, Lookup: Adding, with the count of 02, S-2, and the exact entries of S-8. add entry as a call: its refusals
-- 1, 2, 12, 3, 5, 7 and 8, and the store at exit.
-- Assumes nothing.
use Rattle.std.specs.Prelude.{ℕ, ◌+◌, ◌/◌, Bool, not, ◌&&◌, List, eqb, ltb, length}
use Rattle.texts.specs.Choice.{when◌then◌else◌}
use Rattle.texts.specs.Text.{is_word}
use Rattle.cells.specs.Cells.{ascii_phones}
use Rattle.data.specs.Sections.{is_phone_table}
use Rattle.store_spec.specs.Store.{is_sound, count, with_count, largest}
use Rattle.store_spec.specs.Adding.{added, is_full}
use Rattle.answers.specs.declared.Answer.{Answer}
use Rattle.answers.specs.Told.{refused, accepted, written}
use Rattle.lexicon_spec.specs.Adding.{new_entry, may_add_all}

unfoldable pub add_entry : List ℕ → List ℕ → List ℕ → List ℕ → List ℕ → Bool → Answer
add_entry table store word tag phones exact =
    when not (is_phone_table table) then refused 1 0
    else when not (is_sound store) then refused 2 0
    else when eqb (count store) largest then refused 12 0
    else when not (is_word word && is_word tag && ascii_phones phones) then refused 3 0
    else when not (may_add_all table phones) then refused 5 0
    else when ltb 24 (length phones / 16) then refused 7 0
    else when is_full store (new_entry word tag phones exact) then refused 8 0
    else accepted 0 0

-- the store at exit: with the entry, and the count one higher
unfoldable pub store_after : List ℕ → List ℕ → List ℕ → List ℕ → List ℕ → Bool → List ℕ
store_after table store word tag phones exact =
    written (add_entry table store word tag phones exact) store (with_count (added store (new_entry word tag phones exact)) (count store + 1))
