-- Bits of whole numbers and floats, beside what the machine does with them; and a value that is read and written again has its four bytes.
-- Assumes nothing.
use Rattle.std.specs.Prelude.{ℕ, Option, Some, None, ◌<◌, ◌≡◌, refl, true, false, not, ◌&&◌, T, ltb, eqb, ℤ, Float}
use Rattle.std.proofs.Common.{arith, SFits, to_z, of_z, ltb-false}
use Rattle.std.specs.Float.{nan, inf, fin, binary32}
use Rattle.std.specs.Float.Ieee.{of_bits, to_bits, is_nan, lt, eq, le}
use Rattle.std.specs.Ordering.{float_partial_cmp, partial_le}
use Rattle.std.specs.Float.Ieee.Bits.{to_bits-of_bits}
use Rattle.std.specs.Int.{w32}
use Rattle.std.proofs.lemmas.Int.{to_z-of_z}
use Rattle.texts.specs.Choice.{cases, never}
use Rattle.values.specs.declared.Setting.TheVariants.{Real}
use Rattle.values.specs.declared.Known.{Known}
use Rattle.values.specs.declared.Known.TheVariants.{Pitch, Stretch, Level}
use Rattle.values.specs.Values.{whole_of, bits_of_whole, setting_of, bits_of, quarter, four, is_stretch, fits, fits_known}

-- what the machine reads back of a whole number is the number
abbrev pub back : (z : ℤ) → SFits w32 z → to_z w32 (of_z w32 z) ≡ z
back z h = to_z-of_z w32 z h

-- a value that is no NaN, and the pattern of the NaN
pub no_nan : (x : Float) → is_nan x ≡ false → T (not (is_nan x))
no_nan x h = rw h tt

pub made_nan : of_bits binary32 2143289344 ≡ nan
unfolding of_bits
made_nan = refl

-- the bits of what was read are the bits
pub whole_bits : (n : ℕ) → n < 4294967296 → bits_of_whole (whole_of n) ≡ n
unfolding whole_of
whole_bits n b = cases (ltb n 2147483648) (λ e. rw e) (λ e. rw e (let h = ltb-false n 2147483648 e in omega arith))

pub bits_whole : (n : ℕ) → n < 4294967296 → bits_of (setting_of 1 n) ≡ n
unfolding setting_of
bits_whole n b = whole_bits n b

pub bits_real : (n : ℕ) → n < 4294967296 → is_nan (of_bits binary32 n) ≡ false → bits_of (setting_of 2 n) ≡ n
unfolding setting_of
bits_real n b h = to_bits-of_bits binary32 n b (no_nan (of_bits binary32 n) h)

-- comparisons as the library's ranges make them
le_ordered : (x y : Float) → partial_le float_partial_cmp x y ≡ le x y
unfolding le
le_ordered x y = cases (lt x y) (λ e. rw e) (λ e. cases (eq x y) (λ d. rw (e, d)) (λ d. cases (lt y x) (λ b. rw (e, d, b)) (λ b. rw (e, d, b))))

pub stretch_ordered : (x : Float) → (partial_le float_partial_cmp quarter x && partial_le float_partial_cmp x four) ≡ is_stretch x
stretch_ordered x = rw (le_ordered quarter x, le_ordered x four)

-- a NaN is in no range
no_stretch : is_stretch nan ≡ false
unfolding le
no_stretch = refl

stretch_real : (x : Float) → is_stretch x ≡ true → is_nan x ≡ false
unfolding is_nan
stretch_real nan h = never (is_stretch nan) h no_stretch
stretch_real (inf s) h = refl
stretch_real (fin s m e) h = refl

-- a whole number or a float that a setting may have goes back to the bits it was made of
real_back : (known : Known) (n : ℕ) → n < 4294967296 → fits known (Real (of_bits binary32 n)) ≡ true → to_bits binary32 (of_bits binary32 n) ≡ n
real_back Pitch n b h = never false h refl
real_back Level n b h = never false h refl
real_back Stretch n b h = to_bits-of_bits binary32 n b (no_nan (of_bits binary32 n) (stretch_real (of_bits binary32 n) h))

pub nan_never : (known : Known) → fits known (Real nan) ≡ false
nan_never Pitch = refl
nan_never Level = refl
nan_never Stretch = no_stretch

pub fit_bits : (known : Option Known) (kind n : ℕ) → n < 4294967296 → fits_known known (setting_of kind n) ≡ true → bits_of (setting_of kind n) ≡ n
unfolding setting_of
fit_bits None kind n b h = never false h refl
fit_bits (Some known) kind n b h =
    cases (eqb kind 1)
    (λ e. rw e (whole_bits n b))
    (λ e. cases (eqb kind 2)
    (λ d. let g : fits known (Real (of_bits binary32 n)) ≡ true = rw (e, d) at h in rw (e, d) (real_back known n b g))
    (λ d. let g : fits known (Real nan) ≡ true = rw (e, d) at h in never (fits known (Real nan)) g (nan_never known)))
