-- 01, Store and sheet: bytes from one place on and before another that are zero, or below 128; and tests of a part of a record, told byte by byte.
-- Assumes nothing.
use Rattle.std.specs.Prelude.{ℕ, zero, suc, ◌+◌, ◌-◌, ◌≤◌, ◌<◌, ◌≡◌, Bool, true, List, [], ◌∷◌, ltb, length, get_or, take, drop}
use Rattle.std.proofs.Common.{zero-add, sym, ap, ◌∙◌, length-take, get_or-take, get_or-drop}
use native.Mathlib.Omega.{arith}
use Rattle.std.proofs.Math.ListN.{length-drop, get_or-eq_default}
use Rattle.std.proofs.Math.Seq.{take-nil}
use borrow.Author.Tests.{eqb-true, eq-eqb, ltb-true, ltb-false, lt-ltb}
use Rattle.texts.specs.Choice.{cases}
use Rattle.texts.specs.Lists.{every, every_at, every_from}
use Rattle.texts.specs.Text.{is, low, ascii}
use Rattle.records.specs.Fields.{u16_at}

-- the bytes from a on and before b are zero
abbrev pub Zero : List ℕ → ℕ → ℕ → Type 0
Zero r a b = (i : ℕ) → a ≤ i → i < b → get_or r i 0 ≡ 0

-- those bytes are below 128
abbrev pub Low : List ℕ → ℕ → ℕ → Type 0
Low r a b = (i : ℕ) → a ≤ i → i < b → get_or r i 0 < 128

-- the n bytes from a on, cut out from behind or from before
pub drop_take : (a n : ℕ) (s : List ℕ) → drop a (take (a + n) s) ≡ take n (drop a s)
drop_take zero n s = ap (λ (k : ℕ). take k s) (zero-add n)
drop_take (suc a) n [] = let e : suc a + n ≡ suc (a + n) = omega arith in ap (λ (k : ℕ). drop (suc a) (take k [])) e ∙ sym (take-nil n)
drop_take (suc a) n (x ∷ xs) = let e : suc a + n ≡ suc (a + n) = omega arith in ap (λ (k : ℕ). drop (suc a) (take k (x ∷ xs))) e ∙ drop_take a n xs

-- a test of the n bytes from a on
module _ (f : ℕ → Bool) (s : List ℕ) (a n : ℕ) where
  part_byte : (k : ℕ) → k < n → get_or (take n (drop a s)) k 0 ≡ get_or s (a + k) 0
  part_byte k h = get_or-take n (drop a s) k 0 h ∙ get_or-drop a s k 0

  pub part_at : every f (take n (drop a s)) ≡ true → (i : ℕ) → a ≤ i → i < a + n → i < length s → f (get_or s i 0) ≡ true
  part_at t i lo hi inside =
      let e : a + (i - a) ≡ i = omega arith in
      let l = length-take n (drop a s) in
      let m = length-drop a s in
      let h = every_at f (take n (drop a s)) 0 t (i - a) (omega arith) in
      rw (part_byte (i - a) (omega arith), e) at h

  pub part_every : ((i : ℕ) → a ≤ i → i < a + n → i < length s → f (get_or s i 0) ≡ true) → every f (take n (drop a s)) ≡ true
  part_every h =
      every_from f (take n (drop a s)) 0 (λ k l.
      let t = length-take n (drop a s) in
      let d = length-drop a s in
      rw (part_byte k (omega arith)) (h (a + k) (omega arith) (omega arith) (omega arith)))

-- zeros from a on
module _ (s : List ℕ) (a : ℕ) where
  pub rest_zero : every (is 0) (drop a s) ≡ true → (i : ℕ) → a ≤ i → get_or s i 0 ≡ 0
  unfolding is
  rest_zero t i h =
      let e : a + (i - a) ≡ i = omega arith in
      cases (ltb i (length s))
      (λ l.
      let k = ltb-true i (length s) l in
      let m = length-drop a s in
      let g = every_at (is 0) (drop a s) 0 t (i - a) (omega arith) in
      eqb-true (get_or s i 0) 0 (rw (get_or-drop a s (i - a) 0, e) at g))
      (λ l. let k = ltb-false i (length s) l in get_or-eq_default s 0 k)

  pub zero_rest : ((i : ℕ) → a ≤ i → i < length s → get_or s i 0 ≡ 0) → every (is 0) (drop a s) ≡ true
  unfolding is
  zero_rest h =
      every_from (is 0) (drop a s) 0 (λ k l.
      let m = length-drop a s in
      eq-eqb (get_or (drop a s) k 0) 0 (get_or-drop a s k 0 ∙ h (a + k) (omega arith) (omega arith)))

-- zeros from a on and before b
module _ (s : List ℕ) (a b : ℕ) where
  pub part_zero : every (is 0) (drop a (take b s)) ≡ true → Zero s a b
  part_zero t i lo hi = sym (get_or-take b s i 0 hi) ∙ rest_zero (take b s) a t i lo

  pub zero_part : Zero s a b → every (is 0) (drop a (take b s)) ≡ true
  zero_part z =
      zero_rest (take b s) a (λ i lo l.
      let t = length-take b s in
      let hi : i < b = omega arith in
      get_or-take b s i 0 hi ∙ z i lo hi)

-- a text of n bytes from a on
module _ (s : List ℕ) (a n : ℕ) (inside : a + n ≤ length s) where
  pub text_low : ascii (take n (drop a s)) ≡ true → Low s a (a + n)
  unfolding ascii low
  text_low t i lo hi = ltb-true (get_or s i 0) 128 (part_at low s a n t i lo hi (omega arith))

  pub low_text : Low s a (a + n) → ascii (take n (drop a s)) ≡ true
  unfolding ascii low
  low_text h = part_every low s a n (λ i lo hi l. lt-ltb (get_or s i 0) 128 (h i lo hi))

-- one byte, a u16, and two parts in a row
pub byte_zero : (s : List ℕ) (k : ℕ) → get_or s k 0 ≡ 0 → Zero s k (k + 1)
byte_zero s k h i lo hi = let e : i ≡ k = omega arith in rw e h

pub join_zero : (s : List ℕ) (a m b : ℕ) → Zero s a m → Zero s m b → Zero s a b
join_zero s a m b p q i lo hi = cases (ltb i m) (λ l. p i lo (ltb-true i m l)) (λ l. q i (ltb-false i m l) hi)

pub u16_zero : (s : List ℕ) (k : ℕ) → u16_at s k ≡ 0 → Zero s k (k + 2)
unfolding u16_at
u16_zero s k h = join_zero s k (k + 1) (k + 2) (byte_zero s k (omega arith)) (λ i lo hi. byte_zero s (k + 1) (omega arith) i lo (omega arith))

pub zero_u16 : (s : List ℕ) (k : ℕ) → Zero s k (k + 2) → u16_at s k ≡ 0
unfolding u16_at
zero_u16 s k z = omega (arith, z k (omega arith) (omega arith), z (k + 1) (omega arith) (omega arith))
