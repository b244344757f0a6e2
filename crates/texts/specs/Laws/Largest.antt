-- The largest byte of a text, and tests of every byte that are one test of it.
-- Assumes nothing.
use Rattle.std.specs.Prelude.{ℕ, suc, ◌+◌, ◌≤◌, ◌<◌, ◌≡◌, refl, ◌&&◌, List, [], ◌∷◌, eqb, ltb, length, get_or, drop}
use Rattle.std.proofs.Common.{add-one, arith, sym, ◌∙◌, drop_of_length-le, drop-cons, lt-ltb, le-ltb, ltb-true, ltb-false, eq-eqb, ne_eqb}
use Rattle.texts.specs.Choice.{when◌then◌else◌, cases}
use Rattle.texts.specs.Lists.{every}
use Rattle.texts.specs.Text.{is, low, ascii}

-- the larger of two bytes
unfoldable pub larger : ℕ → ℕ → ℕ
larger a b = when ltb a b then b else a

-- the largest byte, 0 of none
unfoldable pub largest : List ℕ → ℕ
largest [] = 0
largest (x ∷ xs) = larger x (largest xs)

-- the larger of two, by which it is
pub larger_right : (a b : ℕ) → a ≤ b → larger a b ≡ b
unfolding larger
larger_right a b h = cases (ltb a b) (λ e. rw e) (λ e. rw e (omega (arith, ltb-false a b e)))

pub larger_left : (a b : ℕ) → b ≤ a → larger a b ≡ a
unfolding larger
larger_left a b h = rw (le-ltb a b h)

larger_assoc : (a b c : ℕ) → larger (larger a b) c ≡ larger a (larger b c)
larger_assoc a b c =
    cases (ltb a b)
    (λ e. let p : a ≤ b = omega (arith, ltb-true a b e) in
    cases (ltb b c)
    (λ f. let q : b ≤ c = omega (arith, ltb-true b c f) in
    let r : a ≤ c = omega arith in
    rw (larger_right a b p, larger_right b c q, larger_right a c r))
    (λ f. let q = ltb-false b c f in rw (larger_right a b p, larger_left b c q, larger_right a b p)))
    (λ e. let p = ltb-false a b e in
    cases (ltb b c)
    (λ f. let q : b ≤ c = omega (arith, ltb-true b c f) in rw (larger_left a b p, larger_right b c q))
    (λ f. let q = ltb-false b c f in
    let r : c ≤ a = omega arith in
    rw (larger_left a b p, larger_left b c q, larger_left a b p, larger_left a c r)))

-- both of two are below a bound exactly if the larger is
larger_below : (n a b : ℕ) → (ltb a n && ltb b n) ≡ ltb (larger a b) n
larger_below n a b =
    cases (ltb a b)
    (λ e. let p = ltb-true a b e in
    cases (ltb b n)
    (λ f. let q : a < n = omega (arith, ltb-true b n f) in rw (larger_right a b (omega arith), lt-ltb a n q))
    (λ f. rw (larger_right a b (omega arith), f) (cases (ltb a n) (λ g. rw g) (λ g. rw g))))
    (λ e. let p = ltb-false a b e in
    cases (ltb a n)
    (λ f. let q : b < n = omega (arith, ltb-true a n f) in rw (larger_left a b p, f, lt-ltb b n q))
    (λ f. rw (larger_left a b p, f)))

-- every byte is below a bound exactly if the largest is
pub largest_below : (n : ℕ) → 0 < n → (s : List ℕ) → every (λ (x : ℕ). ltb x n) s ≡ ltb (largest s) n
unfolding every largest
largest_below n h [] = sym (lt-ltb 0 n h)
largest_below n h (x ∷ xs) = rw (largest_below n h xs) (larger_below n x (largest xs))

pub ascii_largest : (s : List ℕ) → ascii s ≡ ltb (largest s) 128
unfolding ascii low
ascii_largest s = largest_below 128 (omega arith) s

-- a byte is 0 exactly if it is below 1
zero_below : (x : ℕ) → eqb x 0 ≡ ltb x 1
zero_below x =
    cases (ltb x 1)
    (λ e. rw e (eq-eqb x 0 (omega (arith, ltb-true x 1 e))))
    (λ e. let h = ltb-false x 1 e in rw e (ne_eqb x 0 (omega arith)))

-- every byte is 0 exactly if the largest is
pub zeros_largest : (s : List ℕ) → every (is 0) s ≡ eqb (largest s) 0
unfolding every is
zeros_largest s = below s ∙ largest_below 1 (omega arith) s ∙ sym (zero_below (largest s))
  where
    below : (s : List ℕ) → every (is 0) s ≡ every (λ (x : ℕ). ltb x 1) s
    below [] = refl
    below (x ∷ xs) = let ih = below xs in rw (zero_below x, ih)

-- one law for each turn of the loop that finds it
pub largest_start : (s : List ℕ) → largest s ≡ larger 0 (largest (drop 0 s))
largest_start s = sym (larger_right 0 (largest s) (omega arith))

pub largest_turn : (s : List ℕ) (m i : ℕ) → i < length s → larger m (largest (drop i s)) ≡ larger (larger m (get_or s i 0)) (largest (drop (i + 1) s))
unfolding largest
largest_turn s m i h = rw (drop-cons s i 0 h, add-one) (sym (larger_assoc m (get_or s i 0) (largest (drop (suc i) s))))

pub largest_end : (s : List ℕ) (m i : ℕ) → length s ≤ i → larger m (largest (drop i s)) ≡ m
unfolding largest
largest_end s m i h = rw (drop_of_length-le s h) (larger_left m 0 (omega arith))
