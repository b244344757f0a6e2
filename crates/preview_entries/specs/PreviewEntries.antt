-- 02, S-2, the first step. preview entries as a call: refusals 1, 2 and 3 of the whole, then those of the first faulty line; the spare at exit.
-- Assumes nothing.
use Rattle.std.specs.Prelude.{ℕ, not, ◌&&◌, List, eqb, length}
use Rattle.texts.specs.Choice.{when◌then◌else◌}
use Rattle.texts.specs.Text.{ascii}
use Rattle.data.specs.Sections.{is_phone_table}
use Rattle.store_spec.specs.Store.{is_sound}
use Rattle.answers.specs.declared.Answer.{Answer}
use Rattle.answers.specs.Told.{refused}
use Rattle.addtext_spec.specs.Filling.{Filled, text_filled, spare_filled, told_filled}

module _ (table store spare text : List ℕ) where
  abbrev pub result : Filled
  result = text_filled table store text

  -- refusals 1, 2 and 3 of the whole, at line 0; 0 for none
  unfoldable pub barred : ℕ
  barred =
      when not (is_phone_table table) then 1
      else when not (is_sound store && eqb (length spare) (length store)) then 2
      else when not (ascii text) then 3
      else 0

  unfoldable pub preview_entries : Answer
  preview_entries = when eqb barred 0 then told_filled store text result else refused barred 0

  -- the spare at exit: what was filled, as it was where the whole is barred
  unfoldable pub spare_after : List ℕ
  spare_after = when eqb barred 0 then spare_filled result else spare
