-- add entry calls one after the other, each on the store that the one before left; and those of one folded word.
-- Assumes nothing.
use Rattle.std.specs.Prelude.{ℕ, ◌≡◌, Bool, List, [], ◌∷◌, map}
use Rattle.texts.specs.Choice.{when◌then◌else◌}
use Rattle.texts.specs.Text.{folded, same}
use Rattle.answers.specs.declared.Answer.{Answer}
use Rattle.add_entry.specs.AddEntry.{add_entry, store_after}

-- what an add entry call is handed beside the store
pub record Given : Type 0 where
  pub table : List ℕ
  pub word : List ℕ
  pub tag : List ℕ
  pub phones : List ℕ
  pub exact : Bool

module _ (g : Given) where
  -- its answer on a store, and the store at exit, by the definitions that the call's contract cites
  abbrev pub answer : List ℕ → Answer
  answer store = add_entry g.table store g.word g.tag g.phones g.exact

  abbrev pub after : List ℕ → List ℕ
  after store = store_after g.table store g.word g.tag g.phones g.exact

-- calls one after the other: the store at the end
unfoldable pub after_all : List Given → List ℕ → List ℕ
after_all [] store = store
after_all (g ∷ gs) store = after_all gs (after g store)

-- and that none of them is refused
abbrev pub AllAccepted : List Given → List ℕ → Type 0
AllAccepted [] store = Unit {0}
AllAccepted (g ∷ gs) store = ((answer g store).refusal ≡ 0) × AllAccepted gs (after g store)

-- the elements of a list at which a test passes
unfoldable pub those : {A : Type 0} → (A → Bool) → List A → List A
those f [] = []
those f (x ∷ xs) = when f x then x ∷ those f xs else those f xs

-- a call of a folded word, and those of a list in their order
abbrev pub is_call_of : List ℕ → Given → Bool
is_call_of w g = same (map folded g.word) w

abbrev pub calls_of : List ℕ → List Given → List Given
calls_of w gs = those (is_call_of w) gs
