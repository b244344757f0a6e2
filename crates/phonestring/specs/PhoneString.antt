-- 01, Store and sheet: the phone string, the texts of a sheet's phones in order with one blank between.
-- Assumes nothing.
use Rattle.std.specs.Prelude.{ℕ, not, List, [], ◌∷◌, ◌++◌, map, ltb, length, drop}
use Rattle.texts.specs.Choice.{when◌then◌else◌}
use Rattle.records.specs.Chain.{chain}
use Rattle.utterance_spec.specs.Tree.{follow, text_at}
use Rattle.utterance_spec.specs.Sheet.{at, used, is_sound}
use Rattle.answers.specs.declared.Answer.{Answer}
use Rattle.answers.specs.Told.{refused, accepted, written}

-- the phones, told along the chain from item 0 on
unfoldable pub phones : List ℕ → List (List ℕ)
phones b = map (text_at (at b)) (chain (follow (at b)) (used b) 0)

-- strings with a blank before each, and with one between each two
unfoldable pub led : List (List ℕ) → List ℕ
led [] = []
led (p ∷ ps) = 32 ∷ p ++ led ps

unfoldable pub spaced : List (List ℕ) → List ℕ
spaced [] = []
spaced (p ∷ ps) = p ++ led ps

abbrev pub string : List ℕ → List ℕ
string b = spaced (phones b)

-- phone string: refusal 2 for an unsound sheet, 9 for too short a buffer; else the length, and the string at the buffer's front
unfoldable pub phone_string : List ℕ → List ℕ → Answer
phone_string sheet out =
    when not (is_sound sheet) then refused 2 0 else when ltb (length out) (length (string sheet)) then refused 9 0 else accepted 0 (length (string sheet))

unfoldable pub string_after : List ℕ → List ℕ → List ℕ
string_after sheet out = written (phone_string sheet out) out (string sheet ++ drop (length (string sheet)) out)
