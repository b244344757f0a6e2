-- 01, Store and sheet: say word as a call, with 02, S-5: its refusals 1, 2, 3, 6, 7 and 9, the place where the letters stopped, and the sheet at exit.
-- Assumes nothing.
use Rattle.std.specs.Prelude.{ℕ, not, ◌&&◌, List}
use Rattle.texts.specs.Choice.{when◌then◌else◌}
use Rattle.texts.specs.Text.{is_word}
use Rattle.lts_spec.specs.Letters.{is_trees}
use Rattle.store_spec.specs.Store.{entries, is_sound}
use Rattle.compiled_spec.specs.Lexicon.{is_lexicon}
use Rattle.utterance_spec.specs.Sheet.{is_sound as is_sheet}
use Rattle.answers.specs.declared.Answer.{Answer}
use Rattle.answers.specs.Told.{refused, written}
use Rattle.pipeline_spec.specs.Pronounced.{Sections, pronounced}
use Rattle.pipeline_spec.specs.Placing.{on_spoken, with_spoken}

module _ (c : Sections) (store sheet word tag : List ℕ) where
  unfoldable pub say_word : Answer
  say_word =
      when not (is_lexicon c.lex_phones c.lex_index && is_trees c.lts_phones c.lts_index c.lts_model) then refused 1 0
      else when not (is_sound store && is_sheet sheet) then refused 2 0
      else when not (is_word word && is_word tag) then refused 3 0
      else on_spoken sheet word (pronounced c (entries store) word tag)

  -- the sheet at exit
  unfoldable pub sheet_after : List ℕ
  sheet_after = written say_word sheet (with_spoken sheet word (pronounced c (entries store) word tag))
