-- 01, Lookup: check lexicon as a call: refusal 1; yes or no.
-- Assumes nothing.
use Rattle.std.specs.Prelude.{ℕ, not, List}
use Rattle.texts.specs.Choice.{when◌then◌else◌, bit}
use Rattle.compiled_spec.specs.Lexicon.{is_lexicon, is_checked}
use Rattle.answers.specs.declared.Answer.{Answer}
use Rattle.answers.specs.Told.{refused, accepted}

unfoldable pub check_lexicon : List ℕ → List ℕ → List ℕ → Answer
check_lexicon phones index dat = when not (is_lexicon phones index) then refused 1 0 else accepted (bit (is_checked phones index dat)) 0
