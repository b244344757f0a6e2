-- 01, Lookup: lookup as a call: its refusals 1, 2, 3, 6, 7 and 9, its answer, and the output at exit.
-- Assumes nothing.
use Rattle.std.specs.Prelude.{ℕ, not, ◌&&◌, List}
use Rattle.texts.specs.Choice.{when◌then◌else◌}
use Rattle.texts.specs.Text.{is_word}
use Rattle.store_spec.specs.Store.{is_sound, entries}
use Rattle.compiled_spec.specs.Lexicon.{is_lexicon}
use Rattle.answers.specs.declared.Answer.{Answer}
use Rattle.answers.specs.Told.{refused, written}
use Rattle.lexicon_spec.specs.Lookup.{Finding, wanted_tag, find, told_finding, with_finding}

module _ (phones index dat store word tag : List ℕ) where
  -- 01's rule on the store's entries
  abbrev pub finding : Finding
  finding = find (entries store) phones index dat word (wanted_tag tag)

  unfoldable pub lookup : List ℕ → Answer
  lookup out =
      when not (is_lexicon phones index) then refused 1 0
      else when not (is_sound store) then refused 2 0
      else when not (is_word word && is_word tag) then refused 3 0
      else told_finding finding out

  -- the output at exit
  unfoldable pub looked_up : List ℕ → List ℕ
  looked_up out = written (lookup out) out (with_finding finding out)
