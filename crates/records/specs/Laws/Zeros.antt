-- Bytes that are all zero, told eight at a time: eight bytes are zero exactly if the number that they make is.
-- Assumes nothing.
use Rattle.std.specs.Prelude.{ℕ, zero, suc, ◌+◌, ◌-◌, ◌*◌, ◌≤◌, ◌<◌, ◌≡◌, refl, Bool, true, false, List, [], ◌∷◌, eqb, ltb, length, take, drop}
use native.Mathlib.Omega.{arith}
use Rattle.std.proofs.Common.{sym, ◌∙◌, get_or-take, get_or-drop}
use Rattle.std.proofs.Math.ListN.{get_or, get_or-eq_default}
use borrow.Author.Tests.{ltb-true, ltb-false, eqb-true, eqb-false, eq-eqb}
use Rattle.std.specs.List.{list_all}
use Rattle.std.specs.Simd.{first_chunks}
use Rattle.texts.specs.Choice.{cases, never, is_false, both_true}
use Rattle.texts.specs.Lists.{every}
use Rattle.texts.specs.Text.{is}
use Rattle.records.specs.Fields.{u16_at, u32_at, u64_at}

-- the first k bytes are zero
abbrev pub ZeroBelow : List ℕ → ℕ → Type 0
ZeroBelow b k = (j : ℕ) → j < k → get_or b j 0 ≡ 0

-- every byte is zero if each place holds zero, and the other way round
every_zero : (s : List ℕ) → every (is 0) s ≡ true → (j : ℕ) → get_or s j 0 ≡ 0
unfolding every is
every_zero [] h j = refl
every_zero (x ∷ xs) h zero = eqb-true x 0 (both_true (is 0 x) (every (is 0) xs) h).0
every_zero (x ∷ xs) h (suc j) = every_zero xs (both_true (is 0 x) (every (is 0) xs) h).1 j

zero_every : (s : List ℕ) → ((j : ℕ) → get_or s j 0 ≡ 0) → every (is 0) s ≡ true
unfolding every is
zero_every [] h = refl
zero_every (x ∷ xs) h = rw (eq-eqb x 0 (h 0)) (zero_every xs (λ j. h (suc j)))

module _ (b : List ℕ) where
  -- the bytes of a number that is zero
  two_zero : (k : ℕ) → u16_at b k ≡ 0 → (j : ℕ) → k ≤ j → j < k + 2 → get_or b j 0 ≡ 0
  unfolding u16_at
  two_zero k h j l u =
      cases (eqb j k)
      (λ e. let z : get_or b k 0 ≡ 0 = omega arith in rw (eqb-true j k e) z)
      (λ e. let n = eqb-false j k e in
      let i : j ≡ k + 1 = omega arith in
      let z : get_or b (k + 1) 0 ≡ 0 = omega arith in
      rw i z)

  four_zero : (k : ℕ) → u32_at b k ≡ 0 → (j : ℕ) → k ≤ j → j < k + 4 → get_or b j 0 ≡ 0
  unfolding u32_at
  four_zero k h j l u =
      cases (ltb j (k + 2))
      (λ e. two_zero k (omega arith) j l (ltb-true j (k + 2) e))
      (λ e. two_zero (k + 2) (omega arith) j (ltb-false j (k + 2) e) (omega arith))

  eight_zero : (k : ℕ) → u64_at b k ≡ 0 → (j : ℕ) → k ≤ j → j < k + 8 → get_or b j 0 ≡ 0
  unfolding u64_at
  eight_zero k h j l u =
      cases (ltb j (k + 4))
      (λ e. four_zero k (omega arith) j l (ltb-true j (k + 4) e))
      (λ e. four_zero (k + 4) (omega arith) j (ltb-false j (k + 4) e) (omega arith))

  -- and a number of bytes that are zero
  zero_eight : (k : ℕ) → ZeroBelow b (k + 8) → u64_at b k ≡ 0
  unfolding u64_at u32_at u16_at
  zero_eight k h =
      let low : u32_at b k ≡ 0 = omega (arith, h k (omega arith), h (k + 1) (omega arith), h (k + 2) (omega arith), h (k + 2 + 1) (omega arith)) in
      let high : u32_at b (k + 4) ≡ 0 =
      omega (arith, h (k + 4) (omega arith), h (k + 4 + 1) (omega arith), h (k + 4 + 2) (omega arith), h (k + 4 + 2 + 1) (omega arith)) in
      omega (arith, low, high)

  -- eight more are zero
  pub zeros_turn : (k : ℕ) → ZeroBelow b k → u64_at b k ≡ 0 → ZeroBelow b (k + 8)
  zeros_turn k h z j u = cases (ltb j k) (λ e. h j (ltb-true j k e)) (λ e. eight_zero k z j (ltb-false j k e) u)

  -- one of eight is not
  pub zeros_stop : (k : ℕ) → (u64_at b k ≡ 0 → ⊥) → every (is 0) b ≡ false
  zeros_stop k n = is_false (every (is 0) b) (λ e. n (zero_eight k (λ j l. every_zero b e j)))

  -- the last eight decide
  pub zeros_end : (k last : ℕ) → ZeroBelow b k → last ≤ k → length b ≤ last + 8 → eqb (u64_at b last) 0 ≡ every (is 0) b
  zeros_end k last h l m =
      cases (eqb (u64_at b last) 0)
      (λ e. let z = zeros_turn last (λ j u. h j (omega arith)) (eqb-true (u64_at b last) 0 e) in
      e ∙ sym (zero_every b (λ j. cases (ltb j (last + 8)) (λ u. z j (ltb-true j (last + 8) u)) (λ u. let p = ltb-false j (last + 8) u in get_or-eq_default b 0 (omega arith)))))
      (λ e. e ∙ sym (zeros_stop last (eqb-false (u64_at b last) 0 e)))

-- eight bytes are zero
abbrev pub is_zero : List ℕ → Bool
is_zero e = eqb (u64_at e 0) 0

-- the first n eights are zero
pub eights_zero : (n : ℕ) (s : List ℕ) → list_all is_zero (first_chunks 8 n s) ≡ true → ZeroBelow s (8 * n)
eights_zero zero s h j l = absurd (omega arith)
eights_zero (suc n) s h j l =
    let b = both_true (is_zero (take 8 s)) (list_all is_zero (first_chunks 8 n (drop 8 s))) h in
    cases (ltb j 8)
    (λ u. let i = ltb-true j 8 u in sym (get_or-take 8 s j 0 i) ∙ eight_zero (take 8 s) 0 (eqb-true (u64_at (take 8 s) 0) 0 b.0) j (omega arith) i)
    (λ u.
    let i = ltb-false j 8 u in
    let e : 8 + (j - 8) ≡ j = omega arith in
    rw (get_or-drop 8 s (j - 8) 0, e) at (eights_zero n (drop 8 s) b.1 (j - 8) (omega arith)))

zero_eights : (n : ℕ) (s : List ℕ) → ((j : ℕ) → get_or s j 0 ≡ 0) → list_all is_zero (first_chunks 8 n s) ≡ true
zero_eights zero s h = refl
zero_eights (suc n) s h =
    let z = zero_eight (take 8 s) 0 (λ j l. get_or-take 8 s j 0 l ∙ h j) in
    rw (eq-eqb (u64_at (take 8 s) 0) 0 z) (zero_eights n (drop 8 s) (λ j. get_or-drop 8 s j 0 ∙ h (8 + j)))

-- one of them is not
pub eights_stop : (n : ℕ) (s : List ℕ) → list_all is_zero (first_chunks 8 n s) ≡ false → every (is 0) s ≡ false
eights_stop n s h = is_false (every (is 0) s) (λ e. never (list_all is_zero (first_chunks 8 n s)) (zero_eights n s (every_zero s e)) h)
