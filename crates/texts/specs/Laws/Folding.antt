-- Folding by a sum: 32 times the number that is 1 for A to Z and 0 for every other byte.
-- Assumes nothing.
use Rattle.std.specs.Prelude.{ℕ, ◌+◌, ◌*◌, ◌≤◌, ◌<◌, ◌≡◌, ◌&&◌, leb}
use Rattle.std.proofs.Common.{arith, leb-true, leb-false}
use Rattle.texts.specs.Choice.{bit, cases, both_true}
use Rattle.texts.specs.Text.{folded}

-- a number is the one if it is 1 from 65 to 90, and 0 below and above
pub capital_by : (b n : ℕ) → (b < 65 → n ≡ 0) → (65 ≤ b → b ≤ 90 → n ≡ 1) → (90 < b → n ≡ 0) → n ≡ bit (leb 65 b && leb b 90)
capital_by b n below capital above =
    cases (leb 65 b)
    (λ l. cases (leb b 90)
    (λ r. rw (l, r) (capital (leb-true 65 b l) (leb-true b 90 r)))
    (λ r. rw (l, r) (above (leb-false b 90 r))))
    (λ l. rw l (below (leb-false 65 b l)))

-- 32 times the number is what folding adds
pub folded_by : (b : ℕ) → b + 32 * bit (leb 65 b && leb b 90) ≡ folded b
unfolding folded
folded_by b =
    cases (leb 65 b && leb b 90)
    (λ e. rw e)
    (λ e. rw e (omega arith))

-- a folded byte is a byte
pub folded_byte : (b : ℕ) → b < 256 → folded b < 256
unfolding folded
folded_byte b h =
    cases (leb 65 b && leb b 90)
    (λ e. let c = leb-true b 90 (both_true (leb 65 b) (leb b 90) e).1 in rw e (omega arith))
    (λ e. rw e h)
