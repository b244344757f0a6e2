-- Tests at the numbers below n: at each of them, and the first that passes.
-- Assumes nothing.
use Rattle.std.specs.Prelude.{ℕ, zero, suc, ◌+◌, ◌-◌, ◌≤◌, ◌<◌, ◌≡◌, refl, Bool, true, false, List, get_or, drop}
use Rattle.std.proofs.Common.{arith, sym, ap, ◌∙◌, add-one}
use Rattle.std.specs.List.{list_all, range_with_len}
use Rattle.texts.specs.Lists.{every, every_turn, every_stop, every_end, every_at, place, place_turn, place_stop, place_end, from, up_to, length_from, get_d_from}
use Rattle.texts.specs.Laws.Library.{every_list_all}

-- they are the library's range
from_range : (k n : ℕ) → from k n ≡ range_with_len k n
unfolding from
from_range k zero = refl
from_range k (suc n) = rw (from_range (suc k) n, add-one) refl

behind_range : (f : ℕ → Bool) (k n : ℕ) → every f (from k n) ≡ list_all (λ (i : ℕ). f (i - 1)) (range_with_len (k + 1) n)
unfolding every from
behind_range f k zero = refl
behind_range f k (suc n) =
    let e : k + 1 - 1 ≡ k = omega arith in
    let s : suc k ≡ k + 1 = omega arith in
    rw (e, ← s) (rw (behind_range f (suc k) n) (rw add-one refl))

module _ (f : ℕ → Bool) (n : ℕ) where
  -- `all` over them
  pub below_all : every f (up_to n) ≡ list_all f (range_with_len 0 n)
  below_all = every_list_all f (up_to n) ∙ ap (λ (l : List ℕ). list_all f l) (from_range 0 n)

  -- `all` over the numbers 1 to n, each of which asks for the one before it
  pub before_all : every f (up_to n) ≡ list_all (λ (i : ℕ). f (i - 1)) (range_with_len 1 n)
  before_all = behind_range f 0 n

  -- the test at the number that a turn reads
  read : (i : ℕ) → i < n → f (get_or (up_to n) i 0) ≡ f i
  read i h = let e : get_or (up_to n) i 0 ≡ i = omega (arith, get_d_from 0 n i 0 h) in ap f e

  -- from a number on
  pub below_turn : (i : ℕ) → i < n → f i ≡ true → every f (drop i (up_to n)) ≡ every f (drop (i + 1) (up_to n))
  below_turn i h e = every_turn f (up_to n) i 0 (omega (arith, length_from 0 n)) (read i h ∙ e)

  pub below_stop : (i : ℕ) → i < n → f i ≡ false → every f (drop i (up_to n)) ≡ false
  below_stop i h e = every_stop f (up_to n) i 0 (omega (arith, length_from 0 n)) (read i h ∙ e)

  pub below_end : (i : ℕ) → n ≤ i → every f (drop i (up_to n)) ≡ true
  below_end i h = every_end f (up_to n) i (omega (arith, length_from 0 n))

  pub below_at : every f (up_to n) ≡ true → (i : ℕ) → i < n → f i ≡ true
  below_at t i h = sym (read i h) ∙ every_at f (up_to n) 0 t i (omega (arith, length_from 0 n))

  -- the numbers passed fail
  passed : (i : ℕ) → i ≤ n → ((j : ℕ) → j < i → f j ≡ false) → place f (up_to n) ≡ i + place f (drop i (up_to n))
  passed zero h fails = omega arith
  passed (suc i) h fails =
      let ih = passed i (omega arith) (λ j g. fails j (omega arith)) in
      let t = place_turn f (up_to n) i 0 (omega (arith, length_from 0 n)) (read i (omega arith) ∙ fails i (omega arith)) in
      let e : i + 1 ≡ suc i = omega arith in
      let u = rw e at t in
      omega arith

  pub first_below : (k : ℕ) → k < n → f k ≡ true → ((j : ℕ) → j < k → f j ≡ false) → place f (up_to n) ≡ k
  first_below k h t fails =
      let p = passed k (omega arith) fails in
      let s = place_stop f (up_to n) k 0 (omega (arith, length_from 0 n)) (read k h ∙ t) in
      omega arith

  pub none_below : ((j : ℕ) → j < n → f j ≡ false) → place f (up_to n) ≡ n
  none_below fails =
      let p = passed n (omega arith) fails in
      let s = place_end f (up_to n) n (omega (arith, length_from 0 n)) in
      omega arith
