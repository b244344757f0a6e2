-- 01, Lookup: Adding, and 02, S-2 and S-8. The lines of a text in turn, up to the first fault, the entries that they add, and the spare behind them.
-- Assumes nothing.
use Rattle.std.specs.Prelude.{ℕ, ◌+◌, ◌-◌, Bool, true, false, Result, Ok, Err, List, [], ◌∷◌, ◌++◌, eqb}
use Rattle.texts.specs.Choice.{when◌then◌else◌, bit}
use Rattle.texts.specs.Lists.{some}
use Rattle.lines.specs.Lines.{lines}
use Rattle.slots_spec.specs.Slot.{Entry}
use Rattle.store_spec.specs.Store.{used, entries, same_key, count, with_count, largest}
use Rattle.store_spec.specs.Adding.{adding}
use Rattle.answers.specs.declared.Answer.{Answer}
use Rattle.answers.specs.declared.Refusal.{Refusal}
use Rattle.answers.specs.Told.{refusal_number, refused, accepted, accepted_with, written}
use Rattle.addtext_spec.specs.Line.{Line, skipped, faulty, entry, read_line, line_entry, outcome, behind_line}

-- how far the lines came: the answer, and the store with the lines before a fault applied
pub record Filled : Type 0 where
  pub answer : Answer
  pub store : List ℕ

-- behind the outcome of line n, with k entry lines taken before it and s the store behind it, `go` takes the lines that follow
unfoldable pub onward : ℕ → ℕ → List ℕ → (ℕ → Filled) → Result Bool Refusal → Filled
onward n k s go (Ok false) = go k
onward n k s go (Ok true) = go (k + 1)
onward n k s go (Err r) = record { answer = refused (refusal_number r) n; store = s }

-- the lines in turn, counted from n on; skipped ones count too
unfoldable pub filled : List ℕ → List ℕ → ℕ → ℕ → List (List ℕ) → Filled
filled table store n k [] = record { answer = accepted 0 k; store = store }
filled table store n k (l ∷ ls) =
    onward n k (behind_line table store (read_line l)) (λ (m : ℕ). filled table (behind_line table store (read_line l)) (n + 1) m ls) (outcome table store (read_line l))

-- the lines of a text, counted from 1
abbrev pub text_filled : List ℕ → List ℕ → List ℕ → Filled
text_filled table store text = filled table store 1 0 (lines text)

-- the entries of the lines, in their order
unfoldable pub entries_of : Line → List Entry
entries_of skipped = []
entries_of faulty = []
entries_of (entry word tag phones) = line_entry word tag phones ∷ []

unfoldable pub line_entries : List (List ℕ) → List Entry
line_entries [] = []
line_entries (l ∷ ls) = entries_of (read_line l) ++ line_entries ls

-- the adding rule for each entry in turn
unfoldable pub adding_all : List Entry → List Entry → List Entry
adding_all [] es = es
adding_all (e ∷ more) es = adding_all more (adding e es)

-- of entries added in turn, how many replace one, an earlier one of them included (02, S-2)
unfoldable pub replacing : List Entry → List Entry → ℕ
replacing [] es = 0
replacing (e ∷ more) es = bit (some (same_key e) es) + replacing more (adding e es)

-- the spare behind the lines carries the count seen; where one stopped them, the largest (02, S-2)
unfoldable pub spare_filled : Filled → List ℕ
spare_filled f = when eqb f.answer.refusal 0 then f.store else with_count f.store largest

-- the store behind a text: all lines, and the count one higher, or as it was where one stopped them (02, S-2)
abbrev pub store_filled : List ℕ → Filled → List ℕ
store_filled store f = written f.answer store (with_count f.store (count store + 1))

-- what is told of a text that came so far: how many lines were taken, how many slots are newly used, how many lines replaced an entry (02, S-2)
unfoldable pub told_filled : List ℕ → List ℕ → Filled → Answer
told_filled store text f =
    when eqb f.answer.refusal 0
    then accepted_with 0 f.answer.value (used f.store - used store) (replacing (line_entries (lines text)) (entries store))
    else f.answer
