-- Strings put together and zeros: told equal part by part.
-- Assumes nothing.
use Rattle.std.specs.Prelude.{ℕ, zero, suc, ◌≡◌, refl, true, ◌&&◌, List, [], ◌∷◌, ◌++◌, eqb, length, replicate}
use Rattle.std.proofs.Common.{arith, sym, eqb-true}
use Rattle.std.proofs.Math.Bool.{and_assoc}
use Rattle.texts.specs.Choice.{both_true}
use Rattle.texts.specs.Lists.{every}
use Rattle.texts.specs.Text.{is, low, ascii, same}

-- two strings put together are two others, part by part
pub same_append : (a b c d : List ℕ) → length a ≡ length c → same (a ++ b) (c ++ d) ≡ (same a c && same b d)
unfolding same
same_append [] b [] d l = refl
same_append [] b (y ∷ ys) d l = absurd (omega arith)
same_append (x ∷ xs) b [] d l = absurd (omega arith)
same_append (x ∷ xs) b (y ∷ ys) d l = rw (same_append xs b ys d (omega arith)) (sym (and_assoc (eqb x y) (same xs ys) (same b d)))

-- zeros are what is zero at each byte
pub same_zeros : (a : List ℕ) (n : ℕ) → length a ≡ n → same a (replicate n 0) ≡ every (is 0) a
unfolding same every is
same_zeros [] zero l = refl
same_zeros [] (suc n) l = absurd (omega arith)
same_zeros (x ∷ xs) zero l = absurd (omega arith)
same_zeros (x ∷ xs) (suc n) l = rw (same_zeros xs n (omega arith))

-- zeros are below 128
pub zeros_low : (s : List ℕ) → every (is 0) s ≡ true → ascii s ≡ true
unfolding every is ascii low
zeros_low [] h = refl
zeros_low (x ∷ xs) h =
    let b = both_true (eqb x 0) (every (is 0) xs) h in
    let e = eqb-true x 0 b.0 in
    rw (e) (zeros_low xs b.1)
