-- The lines from a place in a text on: laws that nothing cites since an iterator goes through the lines.
-- Assumes nothing.
use Rattle.std.specs.Prelude.{ℕ, suc, Bool, Result, ◌+◌, ◌≤◌, ◌<◌, ◌≡◌, List, ◌∷◌, length, get_or, drop}
use Rattle.std.proofs.Math.Path.{ap}
use Rattle.std.proofs.Common.{◌∙◌, drop_of_length-le, drop-cons}
use Rattle.lines.specs.Lines.{first_line, after_line, lines_of, lines}
use Rattle.lines.specs.Laws.Turns.{lines_more}
use Rattle.answers.specs.Told.{accepted}
use Rattle.addtext_spec.specs.Line.{read_line, outcome, behind_line}
use Rattle.answers.specs.declared.Refusal.{Refusal}
use Rattle.addtext_spec.specs.Filling.{onward, filled}

module _ (text : List ℕ) (at : ℕ) where
  lines_from : at < length text → lines (drop at text) ≡ first_line (drop at text) ∷ lines (after_line (drop at text))
  lines_from h = let e = drop-cons text at 0 h in rw e (lines_more (get_or text at 0) (drop (suc at) text))

  module _ (table store : List ℕ) (n k : ℕ) where
    pub filled_turn : at < length text → (l : List ℕ) → l ≡ first_line (drop at text) → (s : List ℕ) → s ≡ behind_line table store (read_line l) → (o : Result Bool Refusal) → o ≡ outcome table store (read_line l)
        → filled table store n k (lines (drop at text)) ≡ onward n k s (λ (m : ℕ). filled table s (n + 1) m (lines (after_line (drop at text)))) o
    unfolding filled
    filled_turn h l el s es o eo = ap (filled table store n k) (lines_from h) ∙ rw (eo, es, el)

    pub filled_end : length text ≤ at → filled table store n k (lines (drop at text)) ≡ record { answer = accepted 0 k; store = store }
    unfolding filled lines lines_of
    filled_end h = rw (drop_of_length-le text h)
