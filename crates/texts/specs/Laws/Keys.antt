-- What the arms of a `match` say of a number: it is one of a list's numbers, or none of them.
-- Assumes nothing.
use Rattle.std.specs.Prelude.{ℕ, ◌≤◌, ◌<◌, ◌≡◌, Bool, false, ◌||◌, eqb, ltb}
use Rattle.std.proofs.Common.{arith, inl, inr}
use Rattle.std.proofs.Math.Path.{refl}
use Rattle.std.proofs.Math.Bool.{true}
use mathlib.Core.List.{List, [], ◌∷◌}
use Rattle.std.proofs.Math.Dec.{leb}
use borrow.Author.Tests.{ne_eqb, ltb-true, leb-true}
use types.Run.{OneOf}
use Rattle.texts.specs.Choice.{cases, both_true, never}
use Rattle.texts.specs.Lists.{every, some}

-- each number of a list is in another
abbrev pub within : List ℕ → List ℕ → Bool
within ls ks = every (λ (l : ℕ). some (eqb l) ks) ls

-- each number of a list is below lo or not below hi
abbrev pub outside : ℕ → ℕ → List ℕ → Bool
outside lo hi ls = every (λ (l : ℕ). ltb l lo || leb hi l) ls

module _ (x : ℕ) where
  -- in an arm whose keys are all in the list
  pub key_in : (ks ls : List ℕ) → within ks ls ≡ true → OneOf ks x → some (eqb x) ls ≡ true
  unfolding every
  key_in [] ls h o = absurd o
  key_in (k ∷ []) ls h e = rw e (both_true (some (eqb k) ls) true h).0
  key_in (k ∷ j ∷ ks) ls h (inl e) = rw e (both_true (some (eqb k) ls) (within (j ∷ ks) ls) h).0
  key_in (k ∷ j ∷ ks) ls h (inr o) = key_in (j ∷ ks) ls (both_true (some (eqb k) ls) (within (j ∷ ks) ls) h).1 o

  no_key : (ks : List ℕ) → (OneOf ks x → ⊥) → some (eqb x) ks ≡ false
  unfolding some
  no_key [] o = refl
  no_key (k ∷ []) o = rw (ne_eqb x k o)
  no_key (k ∷ j ∷ ks) o = rw (ne_eqb x k (λ e. o (inl e))) (no_key (j ∷ ks) (λ r. o (inr r)))

  -- past an arm whose keys are the whole list
  pub key_out : (ks ls : List ℕ) → within ls ks ≡ true → (OneOf ks x → ⊥) → some (eqb x) ls ≡ false
  unfolding every some
  key_out ks [] h o = refl
  key_out ks (l ∷ ls) h o =
      let b = both_true (some (eqb l) ks) (within ls ks) h in
      let n : x ≡ l → ⊥ = λ e. never (some (eqb x) ks) (rw e b.0) (no_key ks o) in
      rw (ne_eqb x l n) (key_out ks ls b.1 o)

  -- in an arm of a range that the list has nothing of
  pub range_out : (lo hi : ℕ) (ls : List ℕ) → outside lo hi ls ≡ true → lo ≤ x → x < hi → some (eqb x) ls ≡ false
  unfolding every some
  range_out lo hi [] h a b = refl
  range_out lo hi (l ∷ ls) h a b =
      let t = both_true (ltb l lo || leb hi l) (outside lo hi ls) h in
      let n : x ≡ l → ⊥ = λ e. cases (ltb l lo) (λ d. omega (arith, ltb-true l lo d)) (λ d. let g : leb hi l ≡ true = (rw d at t).0 in omega (arith, leb-true hi l g)) in
      rw (ne_eqb x l n) (range_out lo hi ls t.1 a b)
