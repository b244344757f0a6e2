-- Tests over lists: at each element, at some, the place of the first that passes; and one law for each turn of a loop that makes them.
-- Assumes nothing.
use Prim.Native.Nat.{ℕ, zero, suc, ◌+◌, ◌-◌, ◌≤◌, ◌<◌}
use Rattle.std.proofs.Common.{add-one, not-suc-le-zero, le_of_suc-le-suc, sym, ap, drop_of_length-le, drop-cons}
use native.Mathlib.Omega.{arith}
use Rattle.std.specs.Prelude.{◌≡◌, refl, Bool, true, false, ◌&&◌, ◌||◌, length, get_or, drop}
use Rattle.std.proofs.Math.Bool.{and_assoc}
use mathlib.Core.List.{List, [], ◌∷◌, ◌++◌, map, reverse}
use Rattle.std.proofs.Math.Option.{Option, none as nothing, some as just}
use Rattle.texts.specs.Choice.{when◌then◌else◌, both_true, cases}

module _ {A : Type 0} (f : A → Bool) where
  -- the test passes at each element
  unfoldable pub every : List A → Bool
  every [] = true
  every (x ∷ xs) = f x && every xs

  -- the test passes at some element
  unfoldable pub some : List A → Bool
  some [] = false
  some (x ∷ xs) = f x || some xs

  -- the place of the first element at which the test passes, the length where there is none
  unfoldable pub place : List A → ℕ
  place [] = 0
  place (x ∷ xs) = when f x then 0 else suc (place xs)

  -- the place just after the last element at which the test passes, 0 where there is none
  unfoldable pub behind_last : List A → ℕ
  behind_last l = length l - place (reverse l)

  pub every_turn : (l : List A) (i : ℕ) (d : A) → i < length l → f (get_or l i d) ≡ true → every (drop i l) ≡ every (drop (i + 1) l)
  unfolding every
  every_turn l i d h e = rw (drop-cons l i d h, add-one) (rw e refl)

  pub every_stop : (l : List A) (i : ℕ) (d : A) → i < length l → f (get_or l i d) ≡ false → every (drop i l) ≡ false
  unfolding every
  every_stop l i d h e = rw (drop-cons l i d h) (rw e refl)

  pub every_end : (l : List A) (i : ℕ) → length l ≤ i → every (drop i l) ≡ true
  unfolding every
  every_end l i h = rw (drop_of_length-le l h)

  pub some_turn : (l : List A) (i : ℕ) (d : A) → i < length l → f (get_or l i d) ≡ false → some (drop i l) ≡ some (drop (i + 1) l)
  unfolding some
  some_turn l i d h e = rw (drop-cons l i d h, add-one) (rw e refl)

  pub some_stop : (l : List A) (i : ℕ) (d : A) → i < length l → f (get_or l i d) ≡ true → some (drop i l) ≡ true
  unfolding some
  some_stop l i d h e = rw (drop-cons l i d h) (rw e refl)

  pub some_end : (l : List A) (i : ℕ) → length l ≤ i → some (drop i l) ≡ false
  unfolding some
  some_end l i h = rw (drop_of_length-le l h)

  pub place_turn : (l : List A) (i : ℕ) (d : A) → i < length l → f (get_or l i d) ≡ false → place (drop i l) ≡ suc (place (drop (i + 1) l))
  unfolding place
  place_turn l i d h e = rw (drop-cons l i d h, add-one) (rw e refl)

  pub place_stop : (l : List A) (i : ℕ) (d : A) → i < length l → f (get_or l i d) ≡ true → place (drop i l) ≡ 0
  unfolding place
  place_stop l i d h e = rw (drop-cons l i d h) (rw e refl)

  pub place_end : (l : List A) (i : ℕ) → length l ≤ i → place (drop i l) ≡ 0
  unfolding place
  place_end l i h = rw (drop_of_length-le l h)

  -- a test that passes at each element passes at the one read
  pub every_at : (l : List A) (d : A) → every l ≡ true → (k : ℕ) → k < length l → f (get_or l k d) ≡ true
  unfolding every
  every_at [] d t k h = absurd (not-suc-le-zero h)
  every_at (x ∷ xs) d t zero h = (both_true (f x) (every xs) t).0
  every_at (x ∷ xs) d t (suc k) h = every_at xs d (both_true (f x) (every xs) t).1 k (le_of_suc-le-suc h)

  pub place_le : (l : List A) → place l ≤ length l
  unfolding place
  place_le [] = omega arith
  place_le (x ∷ xs) =
      let ih = place_le xs in
      cases (f x) (λ e. rw e (omega arith)) (λ e. rw e (omega arith))

-- the first element at which the test passes
unfoldable pub first : {A : Type 0} → (A → Bool) → List A → Option A
first f [] = nothing
first f (x ∷ xs) = when f x then just x else first f xs

-- it is the one at its place, if there is one
pub first_none : {A : Type 0} (f : A → Bool) (l : List A) → length l ≤ place f l → first f l ≡ nothing
unfolding first place
first_none f [] h = refl
first_none f (x ∷ xs) h =
    cases (f x)
    (λ e. let z : suc (length xs) ≤ 0 = rw e at h in absurd (not-suc-le-zero z))
    (λ e. let k : suc (length xs) ≤ suc (place f xs) = rw e at h in rw e (first_none f xs (le_of_suc-le-suc k)))

pub first_just : {A : Type 0} (f : A → Bool) (l : List A) (d : A) → place f l < length l → first f l ≡ just (get_or l (place f l) d)
unfolding first place
first_just f [] d h = absurd (not-suc-le-zero h)
first_just f (x ∷ xs) d h =
    cases (f x)
    (λ e. rw e)
    (λ e. let k : suc (suc (place f xs)) ≤ suc (length xs) = rw e at h in rw e (first_just f xs d (le_of_suc-le-suc k)))

-- tests that agree at each element of a list agree on the list
pub every_same : {A : Type 0} (f g : A → Bool) (l : List A) (d : A) → ((k : ℕ) → k < length l → f (get_or l k d) ≡ g (get_or l k d)) → every f l ≡ every g l
unfolding every
every_same f g [] d h = refl
every_same f g (x ∷ xs) d h = let ih = every_same f g xs d (λ k l. h (suc k) (omega arith)) in rw (h 0 (omega arith), ih)

-- an element of a mapped list, whatever stands past its end
pub get_d_map : {A B : Type 0} (f : A → B) (l : List A) (n : ℕ) (d : A) (e : B) → n < length l → get_or (map f l) n e ≡ f (get_or l n d)
get_d_map f [] n d e h = absurd (not-suc-le-zero h)
get_d_map f (x ∷ xs) zero d e h = refl
get_d_map f (x ∷ xs) (suc n) d e h = get_d_map f xs n d e (le_of_suc-le-suc h)

-- n numbers from k on
unfoldable pub from : ℕ → ℕ → List ℕ
from k zero = []
from k (suc n) = k ∷ from (suc k) n

-- the numbers below n
abbrev pub up_to : ℕ → List ℕ
up_to n = from 0 n

pub length_from : (k n : ℕ) → length (from k n) ≡ n
unfolding from
length_from k zero = refl
length_from k (suc n) = ap suc (length_from (suc k) n)

pub get_d_from : (k n i d : ℕ) → i < n → get_or (from k n) i d ≡ k + i
unfolding from
get_d_from k zero i d h = absurd (not-suc-le-zero h)
get_d_from k (suc n) zero d h = omega arith
get_d_from k (suc n) (suc i) d h = let e = get_d_from (suc k) n i d (le_of_suc-le-suc h) in omega arith

-- inside a list it does not matter what stands past its end
pub get_d_in : (l : List ℕ) (k c d : ℕ) → k < length l → get_or l k c ≡ get_or l k d
get_d_in [] k c d h = absurd (not-suc-le-zero h)
get_d_in (x ∷ xs) zero c d h = refl
get_d_in (x ∷ xs) (suc k) c d h = get_d_in xs k c d (le_of_suc-le-suc h)

-- a test passes at each element of two lists put together if it does at each of both
pub every_append : {A : Type 0} (f : A → Bool) (a b : List A) → every f (a ++ b) ≡ (every f a && every f b)
unfolding every
every_append f [] b = refl
every_append f (x ∷ xs) b = rw (every_append f xs b) (sym (and_assoc (f x) (every f xs) (every f b)))

-- a test that passes at each number's element passes at each element
pub every_from : {A : Type 0} (f : A → Bool) (l : List A) (d : A) → ((k : ℕ) → k < length l → f (get_or l k d) ≡ true) → every f l ≡ true
unfolding every
every_from f [] d h = refl
every_from f (x ∷ xs) d h = rw (h 0 (omega arith)) (every_from f xs d (λ k l. h (suc k) (omega arith)))

-- the element at the place of the first that passes, passes
pub place_passes : {A : Type 0} (f : A → Bool) (l : List A) (d : A) → place f l < length l → f (get_or l (place f l) d) ≡ true
unfolding place
place_passes f [] d h = absurd (not-suc-le-zero h)
place_passes f (x ∷ xs) d h =
    cases (f x)
    (λ e. rw e e)
    (λ e. let k : suc (suc (place f xs)) ≤ suc (length xs) = rw e at h in rw e (place_passes f xs d (le_of_suc-le-suc k)))

-- what an optional element must be, and the first of a list is if each is
abbrev pub Passes : {A : Type 0} → (A → Bool) → Option A → Type 0
Passes g nothing = Unit {0}
Passes g (just x) = g x ≡ true

pub first_passes : {A : Type 0} (f g : A → Bool) (l : List A) → every g l ≡ true → Passes g (first f l)
unfolding first every
first_passes f g [] h = tt
first_passes f g (x ∷ xs) h =
    let b = both_true (g x) (every g xs) h in
    cases (f x) (λ e. rw e b.0) (λ e. rw e (first_passes f g xs b.1))
