-- 02, S-12: the rack's stretch is never a NaN nor an infinity: of two stretches in range the product, rounded once, lies from 1/16 to 16.
-- Assumes nothing.
use Rattle.std.specs.Prelude.{ℕ, suc, ◌*◌, ◌≤◌, ◌<◌, ◌≡◌, refl, true, false, not, ◌&&◌, ◌||◌, List, T, eqb, ltb, ℤ, pos, negsuc, Float}
use Rattle.std.proofs.Common.{le_trans, mul-le-mul_left, mul-le-mul_right, mul_assoc, mul_comm, mul_left_comm, mul-pos, arith, subst, pow_pos, ltb-true, eqb-true, ne_eqb}
use Rattle.std.specs.Int.Count.{count_trailing_zeros}
use Rattle.std.specs.Float.{nan, inf, fin, binary32}
use Rattle.std.specs.Float.Ieee.{mul, round, units, size, span, climb, odd, le, lt, eq, up, down}
use Rattle.std.specs.Float.Ieee.Order.{round_mono}
use Rattle.texts.specs.Choice.{cases, never, both_true}
use Rattle.values.specs.declared.Setting.{Setting}
use Rattle.values.specs.declared.Setting.TheVariants.{Whole, Real}
use Rattle.values.specs.declared.Known.TheVariants.{Pitch, Stretch, Level}
use Rattle.values.specs.Values.{quarter, four, is_stretch, fits, real_in}
use Rattle.settings_spec.specs.Settings.{pitch_of, stretch_of, level_of, all_fit}
use Rattle.read_settings.specs.ReadSettings.{rack_of}

abbrev pub sixteenth : Float
sixteenth = fin false 1 (negsuc 3)

abbrev pub sixteen : Float
sixteen = fin false 1 (pos 4)

down_pos : (e : ℤ) → 0 < down e
down_pos (pos k) = omega arith
down_pos (negsuc k) = pow_pos (suc k)

-- a comparison of two floats that are not negative, by the numbers that it compares
le_means : (a b : ℕ) → (ltb a b || (eqb a b && true)) ≡ true → a ≤ b
le_means a b h =
    cases (ltb a b)
    (λ t. let l = ltb-true a b t in omega arith)
    (λ t. let g : (eqb a b && true) ≡ true = rw t at h in let e = eqb-true a b (both_true (eqb a b) true g).0 in omega arith)

below_zero : (a b : ℕ) → 0 < a → (false || (eqb a b && (false || eqb a 0))) ≡ false
below_zero a b h = let z = ne_eqb a 0 (omega arith) in cases (eqb a b) (λ t. rw (t, z)) (λ t. rw t)

-- a stretch in range is a number x / d with d ≤ 4 * x and x ≤ 4 * d
pub record Ranged (x : Float) : Type 0 where
  pub mantissa : ℕ
  pub exponent : ℤ
  pub is : x ≡ fin false mantissa exponent
  pub least : down exponent ≤ mantissa * up exponent * 4
  pub most : mantissa * up exponent ≤ 4 * down exponent

ranged : (x : Float) → is_stretch x ≡ true → Ranged x
unfolding le lt eq
ranged nan h = never false h refl
ranged (inf true) h = never false h refl
ranged (inf false) h = never false h refl
ranged (fin true m e) h =
    let b = both_true (le quarter (fin true m e)) (le (fin true m e) four) h in
    never (le quarter (fin true m e)) b.0 (below_zero (1 * 1 * down e) (m * up e * 4) (let d = down_pos e in omega arith))
ranged (fin false m e) h =
    let b = both_true (le quarter (fin false m e)) (le (fin false m e) four) h in
    let l = le_means (1 * 1 * down e) (m * up e * 4) b.0 in
    let u = le_means (m * up e * 1) (1 * 4 * down e) b.1 in
    record { mantissa = m; exponent = e; is = refl; least = omega arith; most = omega arith }

-- two such bounds multiplied
both_least : (x y d e : ℕ) → d ≤ x * 4 → e ≤ y * 4 → 1 * (d * e) ≤ x * y * 16
both_least x y d e h k =
    let p : d * e ≤ x * 4 * (y * 4) = le_trans (mul-le-mul_right e h) (mul-le-mul_left (x * 4) k) in
    let q : x * 4 * (y * 4) ≡ x * y * 16 = simp (mul_assoc, mul_comm, mul_left_comm) (omega arith) in
    let r : 1 * (d * e) ≡ d * e = omega arith in
    omega arith

both_most : (x y d e : ℕ) → x ≤ 4 * d → y ≤ 4 * e → x * y * 1 ≤ 16 * (d * e)
both_most x y d e h k =
    let p : x * y ≤ 4 * d * (4 * e) = le_trans (mul-le-mul_right y h) (mul-le-mul_left (4 * d) k) in
    let q : 4 * d * (4 * e) ≡ 16 * (d * e) = simp (mul_assoc, mul_comm, mul_left_comm) (omega arith) in
    omega arith

sixteenth_is : round binary32 false 1 16 ≡ sixteenth
unfolding round units size span climb odd count_trailing_zeros
sixteenth_is = refl

sixteen_is : round binary32 false 16 1 ≡ sixteen
unfolding round units size span climb odd count_trailing_zeros
sixteen_is = refl

pub rack_range : (x y : Float) → is_stretch x ≡ true → is_stretch y ≡ true → T (le sixteenth (mul binary32 x y)) × T (le (mul binary32 x y) sixteen)
unfolding mul
rack_range x y h k =
    let a = ranged x h in
    let b = ranged y k in
    let xn = a.mantissa * up a.exponent in
    let yn = b.mantissa * up b.exponent in
    let xd = down a.exponent in
    let yd = down b.exponent in
    let d : 0 < xd * yd = mul-pos (down_pos a.exponent) (down_pos b.exponent) in
    let product = round binary32 false (xn * yn) (xd * yd) in
    let lo : T (le (round binary32 false 1 16) product) =
    round_mono binary32 1 16 (xn * yn) (xd * yd) (omega arith) d (both_least xn yn xd yd a.least b.least) in
    let hi : T (le product (round binary32 false 16 1)) =
    round_mono binary32 (xn * yn) (xd * yd) 16 1 d (omega arith) (both_most xn yn xd yd a.most b.most) in
    rw (a.is, b.is) (subst (λ (z : Float). T (le z product)) sixteenth_is lo, subst (λ (z : Float). T (le product z)) sixteen_is hi)

-- so the rack's stretch is that of every accepted read
fit_stretch : (s : Setting) → fits Stretch s ≡ true → is_stretch (real_in s) ≡ true
fit_stretch (Whole n) h = never false h refl
fit_stretch (Real x) h = h

pub rack_told : (v : ℕ) (b : List ℕ) (show : Float) → all_fit v b ≡ true → is_stretch show ≡ true
    → T (le sixteenth (rack_of b show)) × T (le (rack_of b show) sixteen)
unfolding all_fit rack_of
rack_told v b show a h =
    let s = both_true (fits Pitch (pitch_of b) && fits Stretch (stretch_of b)) (not (eqb v 2) || fits Level (level_of b)) a in
    let t = both_true (fits Pitch (pitch_of b)) (fits Stretch (stretch_of b)) s.0 in
    rack_range (real_in (stretch_of b)) show (fit_stretch (stretch_of b) t.1) h
