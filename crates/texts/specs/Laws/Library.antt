-- The tests of Lists and Text by the library's names, in which the contracts of its iterators and operators speak. Assumes nothing.
use Rattle.std.proofs.Common.{arith, sym, nat_eq, ltb, ltb-true, ltb-false, ne_eqb}
use Rattle.std.specs.Cmp.Lexicographic.{pointwise, slice_partial_cmp}
use Rattle.std.specs.Ordering.{nat_cmp, partial_lt}
use Rattle.std.specs.Prelude.{ℕ, ◌<◌, Option, Some, eqb, ◌≡◌, refl, Bool, List, [], ◌∷◌, length, map}
use Rattle.std.specs.Option.{unwrap_or, MatchOption}
use Rattle.std.specs.List.{list_all, list_any, position, position_or_len}
use Rattle.texts.specs.Choice.{cases}
use Rattle.texts.specs.Lists.{every, some, place, place_le}
use Rattle.texts.specs.Text.{same, smaller}

module _ {A : Type 0} (f : A → Bool) where
  pub every_list_all : (l : List A) → every f l ≡ list_all f l
  unfolding every
  every_list_all [] = refl
  every_list_all (x ∷ xs) = rw (every_list_all xs) refl

  pub some_list_any : (l : List A) → some f l ≡ list_any f l
  unfolding some
  some_list_any [] = refl
  some_list_any (x ∷ xs) = rw (some_list_any xs) refl

  pub place_or_len : (l : List A) → place f l ≡ position_or_len f l
  unfolding place
  place_or_len [] = refl
  place_or_len (x ∷ xs) = cases (f x) (λ e. rw e refl) (λ e. rw e (rw (place_or_len xs) (omega arith)))

  -- `position(..)`, and the length where it answers None
  pub place_unwrap : (l : List A) → unwrap_or (position f l) (length l) ≡ place f l
  place_unwrap l =
      cases (ltb (position_or_len f l) (length l))
      (λ e. rw e (sym (place_or_len l)))
      (λ e. rw e (let h = ltb-false (position_or_len f l) (length l) e in let k = place_le f l in let m = place_or_len l in omega arith))

  -- `position(..)` is the place, where that is inside
  pub position_place : (l : List A) (o : Option ℕ) (m n : ℕ) → o ≡ position f l → place f l ≡ m → length l ≡ n
      → MatchOption o (m ≡ n) (λ k. (k ≡ m) × (k < n))
  position_place l o m n e p q =
      let h = place_or_len l in
      let k = place_le f l in
      cases (ltb (position_or_len f l) (length l))
      (λ t. let b = ltb-true (position_or_len f l) (length l) t in rw (e, t) (omega arith, omega arith))
      (λ t. let b = ltb-false (position_or_len f l) (length l) t in rw (e, t) (omega arith))

-- tests of a mapped list
module _ {A B : Type 0} (f : B → Bool) (g : A → B) (h : A → Bool) (e : (x : A) → f (g x) ≡ h x) where
  pub every_map : (l : List A) → every f (map g l) ≡ every h l
  unfolding every
  every_map [] = refl
  every_map (x ∷ xs) = rw (e x, every_map xs)

  pub some_map : (l : List A) → some f (map g l) ≡ some h l
  unfolding some
  some_map [] = refl
  some_map (x ∷ xs) = rw (e x, some_map xs)

  pub place_map : (l : List A) → place f (map g l) ≡ place h l
  unfolding place
  place_map [] = refl
  place_map (x ∷ xs) = rw (e x, place_map xs)

-- `==` of two slices of bytes
pub same_pointwise : (a b : List ℕ) → same a b ≡ pointwise nat_eq a b
unfolding same
same_pointwise [] [] = refl
same_pointwise [] (y ∷ ys) = refl
same_pointwise (x ∷ xs) [] = refl
same_pointwise (x ∷ xs) (y ∷ ys) = rw (same_pointwise xs ys) refl

-- `<` of two slices of bytes
pub smaller_lt : (a b : List ℕ) → smaller a b ≡ partial_lt (slice_partial_cmp (λ x y. Some (nat_cmp x y))) a b
unfolding smaller
smaller_lt [] [] = refl
smaller_lt [] (y ∷ ys) = refl
smaller_lt (x ∷ xs) [] = refl
smaller_lt (x ∷ xs) (y ∷ ys) =
    cases (ltb x y)
    (λ l. let n = ltb-true x y l in rw (l, ne_eqb x y (λ e. omega arith)))
    (λ l. cases (eqb x y)
    (λ e. rw (l, e) (smaller_lt xs ys))
    (λ e. rw (l, e)))
