-- 01, sayable as a call: its refusals 1 and 3, and its answer.
-- Assumes nothing.
use Rattle.std.specs.Prelude.{ℕ, Bool, false, not, ◌&&◌, ◌||◌, Option, None, Some, List, reverse}
use Rattle.texts.specs.Choice.{when◌then◌else◌, bit}
use Rattle.texts.specs.Text.{is_word}
use Rattle.answers.specs.declared.Answer.{Answer}
use Rattle.answers.specs.Told.{refused, accepted}
use Rattle.data.specs.Sections.{is_aswd}
use Rattle.language.specs.Machine.{cells, step, accepts}

-- both machines start where aswd.p's step on "#" from 0 leads; forwards in aswd.p and backwards in aswd.s a V must be reached
abbrev pub both_accept : List ℕ → List ℕ → List ℕ → Option ℕ → Bool
both_accept prefix suffix word (Some start) = accepts (cells prefix) start word && accepts (cells suffix) start (reverse word)
both_accept prefix suffix word None = false

unfoldable pub is_sayable : List ℕ → List ℕ → List ℕ → Answer
is_sayable prefix suffix word =
    when not (is_aswd prefix) || not (is_aswd suffix) then refused 1 0
    else when not (is_word word) then refused 3 0
    else accepted (bit (both_accept prefix suffix word (step (cells prefix) 0 35))) 0
