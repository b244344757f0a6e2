-- The bits of numbers and floats by arithmetic, as laws: std's casts find them for `src/` today, and nothing cites these. Assumes nothing.
use Rattle.std.specs.Prelude.{ℕ, zero, suc, ◌-◌, ◌%◌, ◌<◌, ◌≤◌, ◌≡◌, refl, true, false, not, T, ltb, ℤ, pos, negsuc, nat_abs, ◌-ℤ◌, Float}
use Rattle.std.proofs.Common.{arith, sym, ap, ◌∙◌, subst, Fits, SFits, to_z, of_z, lt-ltb, le-ltb}
use Rattle.std.specs.Int.Signed.{lt_z, non_neg}
use Rattle.std.specs.Float.{nan, inf, fin, binary32}
use Rattle.std.specs.Float.Ieee.{of_bits, is_nan, nan_bits, ne, div}
use Rattle.std.specs.Float.Ieee.Bits.{nan_bits_is, nan_bits_above}
use Rattle.std.specs.Int.{w32}
use Rattle.std.proofs.lemmas.Int.{to_z_pos, to_z-of_z}
use Rattle.texts.specs.Choice.{never}
use Rattle.values.specs.Values.{whole_of, bits_of_whole, fits}
use Rattle.values.specs.Laws.Bits.{back}

-- minus one minus a number
pub from_minus_one : (k : ℕ) → negsuc 0 -ℤ pos k ≡ negsuc k
from_minus_one zero = refl
from_minus_one (suc j) = ap (λ (n : ℕ). negsuc (suc n)) (omega arith)

pub to_minus_one : (k : ℕ) → negsuc 0 -ℤ negsuc k ≡ pos k
to_minus_one k =
    let e : suc k - 1 ≡ k = omega arith in
    let f : ltb (suc k) 1 ≡ false = le-ltb (suc k) 1 (omega arith) in
    rw (f, e)

-- below half the numbers, the bits are the number
pub whole_low : (n : ℕ) → n < 2147483648 → to_z w32 n ≡ whole_of n
unfolding whole_of
whole_low n h = to_z_pos w32 n h ∙ rw (lt-ltb n 2147483648 h)

-- from half on, as the code finds it
pub whole_high_fits : (n : ℕ) → n < 4294967296 → 2147483648 ≤ n → SFits w32 (negsuc 0 -ℤ to_z w32 (4294967295 - n))
whole_high_fits n b h =
    let m : 4294967295 - n < 2147483648 = omega arith in
    let e : negsuc 0 -ℤ to_z w32 (4294967295 - n) ≡ negsuc (4294967295 - n) = ap (λ (z : ℤ). negsuc 0 -ℤ z) (to_z_pos w32 (4294967295 - n) m) ∙ from_minus_one (4294967295 - n) in
    subst (λ (z : ℤ). SFits w32 z) (sym e) (record { sfits = m })

pub whole_high : (n : ℕ) → n < 4294967296 → 2147483648 ≤ n → to_z w32 (of_z w32 (negsuc 0 -ℤ to_z w32 (4294967295 - n))) ≡ whole_of n
unfolding whole_of
whole_high n b h =
    let m : 4294967295 - n < 2147483648 = omega arith in
    to_z-of_z w32 (negsuc 0 -ℤ to_z w32 (4294967295 - n)) (whole_high_fits n b h)
    ∙ ap (λ (z : ℤ). negsuc 0 -ℤ z) (to_z_pos w32 (4294967295 - n) m) ∙ from_minus_one (4294967295 - n)
    ∙ rw (le-ltb n 2147483648 h)

-- the bits of a whole number below zero, as the code finds them
module _ (z : ℤ) (fits : SFits w32 z) where
  flipped : (k : ℕ) → z ≡ negsuc k → k < 2147483648 → to_z w32 (of_z w32 (negsuc 0 -ℤ to_z w32 (of_z w32 z))) ≡ pos k
  flipped k e h =
      let s : negsuc 0 -ℤ to_z w32 (of_z w32 z) ≡ pos k = ap (λ (y : ℤ). negsuc 0 -ℤ y) (back z fits ∙ e) ∙ to_minus_one k in
      rw s (to_z-of_z w32 (pos k) (record { sfits = h }))

pub below_zero : (z : ℤ) → SFits w32 z → lt_z (to_z w32 (of_z w32 z)) (pos 0) ≡ true
    → SFits w32 (negsuc 0 -ℤ to_z w32 (of_z w32 z))
    × (T (non_neg (to_z w32 (of_z w32 (negsuc 0 -ℤ to_z w32 (of_z w32 z))))) × Fits w32 (nat_abs (to_z w32 (of_z w32 (negsuc 0 -ℤ to_z w32 (of_z w32 z))))))
    × (nat_abs (to_z w32 (of_z w32 (negsuc 0 -ℤ to_z w32 (of_z w32 z)))) ≤ 4294967295)
    × (4294967295 - nat_abs (to_z w32 (of_z w32 (negsuc 0 -ℤ to_z w32 (of_z w32 z)))) ≡ bits_of_whole z)
below_zero (pos n) fits t = never (lt_z (to_z w32 (of_z w32 (pos n))) (pos 0)) t (rw (back (pos n) fits) (le-ltb n 0 (omega arith)))
below_zero (negsuc k) fits t =
    let h : k < 2147483648 = fits.sfits in
    let e = flipped (negsuc k) fits k refl h in
    let s : negsuc 0 -ℤ to_z w32 (of_z w32 (negsuc k)) ≡ pos k = ap (λ (y : ℤ). negsuc 0 -ℤ y) (back (negsuc k) fits) ∙ to_minus_one k in
    (subst (λ (y : ℤ). SFits w32 y) (sym s) (record { sfits = h }), rw e (tt, record { fits = omega arith }), rw e (omega arith), rw e refl)

pub not_below_zero : (z : ℤ) → SFits w32 z → lt_z (to_z w32 (of_z w32 z)) (pos 0) ≡ false
    → (T (non_neg (to_z w32 (of_z w32 z))) × Fits w32 (nat_abs (to_z w32 (of_z w32 z)))) × (nat_abs (to_z w32 (of_z w32 z)) ≡ bits_of_whole z)
not_below_zero (negsuc k) fits t = never (lt_z (to_z w32 (of_z w32 (negsuc k))) (pos 0)) (rw (back (negsuc k) fits)) t
not_below_zero (pos n) fits t = let h : n < 2147483648 = fits.sfits in rw (back (pos n) fits) ((tt, record { fits = omega arith }), refl)

-- a NaN is what a test against itself tells, and its patterns lie above the infinity's
pub is_nan_lem : (x : Float) → is_nan x ≡ true → x ≡ nan
unfolding is_nan
is_nan_lem nan h = refl
is_nan_lem (inf s) h = never false h refl
is_nan_lem (fin s m e) h = never false h refl

pub nan_told : (x : Float) → ne x x ≡ false → T (not (is_nan x))
unfolding ne is_nan
nan_told nan h = never true refl h
nan_told (inf s) h = tt
nan_told (fin s m e) h = tt

pub nan_above : (n : ℕ) → 2139095040 < n % 2147483648 → of_bits binary32 n ≡ nan
nan_above n h = is_nan_lem (of_bits binary32 n) (sym (nan_bits_is binary32 n) ∙ nan_bits_above binary32 n ∙ lt-ltb 2139095040 (n % 2147483648) h)

pub no_nan_below : (n : ℕ) → n % 2147483648 ≤ 2139095040 → nan_bits binary32 n ≡ false
no_nan_below n h = nan_bits_above binary32 n ∙ le-ltb 2139095040 (n % 2147483648) h

pub made_nan : div binary32 (of_bits binary32 0) (of_bits binary32 0) ≡ nan
unfolding div of_bits
made_nan = refl
