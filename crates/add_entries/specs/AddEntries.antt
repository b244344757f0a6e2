-- 01, Lookup: Adding, and 02, S-2. add text as a call, both steps together: refusals 1, 2, 12 and 3 of the whole, then those of
-- the first faulty line; the store and the spare at exit.
-- Assumes nothing.
use Rattle.std.specs.Prelude.{ℕ, ◌+◌, not, ◌&&◌, List, eqb, length}
use Rattle.texts.specs.Choice.{when◌then◌else◌}
use Rattle.texts.specs.Text.{ascii}
use Rattle.data.specs.Sections.{is_phone_table}
use Rattle.store_spec.specs.Store.{is_sound, count, with_count, largest}
use Rattle.answers.specs.declared.Answer.{Answer}
use Rattle.answers.specs.Told.{refused, written}
use Rattle.addtext_spec.specs.Filling.{Filled, text_filled, spare_filled}

module _ (table store spare text : List ℕ) where
  abbrev pub result : Filled
  result = text_filled table store text

  -- refusals 1, 2, 12 and 3 of the whole, at line 0; 0 for none
  unfoldable pub barred : ℕ
  barred =
      when not (is_phone_table table) then 1
      else when not (is_sound store && eqb (length spare) (length store)) then 2
      else when eqb (count store) largest then 12
      else when not (ascii text) then 3
      else 0

  unfoldable pub add_entries : Answer
  add_entries = when eqb barred 0 then result.answer else refused barred 0

  -- the store at exit: all lines, and the count one higher, or none; the spare: what was filled, as it was where the whole is barred
  unfoldable pub store_after : List ℕ
  store_after = written add_entries store (with_count result.store (count store + 1))

  unfoldable pub spare_after : List ℕ
  spare_after = when eqb barred 0 then spare_filled result else spare
