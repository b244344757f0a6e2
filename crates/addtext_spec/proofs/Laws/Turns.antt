-- The lines of a text in turn: the first of them and those behind it, or none.
-- Assumes nothing.
use Rattle.std.specs.Prelude.{ℕ, ◌+◌, ◌≡◌, Bool, Result, List, [], ◌∷◌, refl}
use Rattle.answers.specs.declared.Refusal.{Refusal}
use Rattle.answers.specs.Told.{accepted}
use Rattle.addtext_spec.specs.Line.{read_line, outcome, behind_line}
use Rattle.addtext_spec.specs.Filling.{onward, filled}

module _ (table store : List ℕ) (n k : ℕ) where
  pub filled_turn : (l : List ℕ) (ls : List (List ℕ)) (s : List ℕ) → s ≡ behind_line table store (read_line l) → (o : Result Bool Refusal) → o ≡ outcome table store (read_line l)
      → filled table store n k (l ∷ ls) ≡ onward n k s (λ (m : ℕ). filled table s (n + 1) m ls) o
  unfolding filled
  filled_turn l ls s es o eo = rw (eo, es) refl

  pub filled_end : filled table store n k [] ≡ record { answer = accepted 0 k; store = store }
  unfolding filled
  filled_end = refl
