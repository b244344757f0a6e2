-- 01, predict as a call, with 02, S-5: its refusals 1, 3, 6 and 9, its answer, and the output at exit.
-- Assumes nothing.
use Rattle.std.specs.Prelude.{ℕ, ◌*◌, not, List, ◌++◌, ltb, length, drop}
use Rattle.std.proofs.Math.Option.{Option, none, some}
use Rattle.texts.specs.Choice.{when◌then◌else◌}
use Rattle.texts.specs.Text.{is_word}
use Rattle.answers.specs.declared.Answer.{Answer}
use Rattle.answers.specs.Told.{refused, accepted_with, written}
use Rattle.cells.specs.Cells.{cells_of}
use Rattle.lts_spec.specs.Letters.{is_trees, letters, stopped}

-- phones to be answered, and where the letters stopped; or damage
abbrev pub told_phones : Option (List (List ℕ)) → ℕ → List ℕ → Answer
told_phones none place out = refused 6 0
told_phones (some ps) place out = when ltb (length out) (16 * length ps) then refused 9 0 else accepted_with 0 (length ps) place 0

-- phones at the front of an output, which keeps its bytes past them
abbrev pub with_phones : Option (List (List ℕ)) → List ℕ → List ℕ
with_phones none out = out
with_phones (some ps) out = cells_of ps ++ drop (16 * length ps) out

-- the output at exit, where the phones are all that is left to decide
abbrev pub out_phones : Option (List (List ℕ)) → ℕ → List ℕ → List ℕ
out_phones found place out = written (told_phones found place out) out (with_phones found out)

unfoldable pub predict : List ℕ → List ℕ → List ℕ → List ℕ → List ℕ → Answer
predict phones index model word out =
    when not (is_trees phones index model) then refused 1 0
    else when not (is_word word) then refused 3 0
    else told_phones (letters phones index model word) (stopped word) out

-- the output at exit
unfoldable pub predicted : List ℕ → List ℕ → List ℕ → List ℕ → List ℕ → List ℕ
predicted phones index model word out =
    written (predict phones index model word out) out (with_phones (letters phones index model word) out)
