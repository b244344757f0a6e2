-- Which bytes are stresses, one by one.
-- Assumes nothing.
use Rattle.std.specs.Prelude.{ℕ, ◌≡◌, ◌≢◌, true, false, not, eqb}
use Rattle.std.proofs.Common.{arith}
use borrow.Author.Tests.{ne_eqb}
use Rattle.texts.specs.Choice.{cases, never}
use Rattle.texts.specs.Lists.{some}
use Rattle.versions.specs.Versions.{digits, is_stress}

module _ (v : ℕ) where
  pub zero_stress : is_stress v 48 ≡ true
  unfolding is_stress digits some
  zero_stress = cases (eqb v 1) (λ e. rw e) (λ e. rw e)

  pub one_stress : is_stress v 49 ≡ true
  unfolding is_stress digits some
  one_stress = cases (eqb v 1) (λ e. rw e) (λ e. rw e)

  pub two_stress : is_stress v 50 ≡ not (eqb v 1)
  unfolding is_stress digits some
  two_stress = cases (eqb v 1) (λ e. rw e) (λ e. rw e)

  pub no_stress_lem : (b : ℕ) → b ≢ 48 → b ≢ 49 → b ≢ 50 → is_stress v b ≡ false
  unfolding is_stress digits some
  no_stress_lem b n₀ n₁ n₂ =
      cases (eqb v 1)
      (λ e. rw (e, ne_eqb b 48 n₀, ne_eqb b 49 n₁))
      (λ e. rw (e, ne_eqb b 48 n₀, ne_eqb b 49 n₁, ne_eqb b 50 n₂))

  -- a stress is never 0
  pub stress_never : (b : ℕ) → is_stress v b ≡ true → b ≢ 0
  stress_never b h e = never (is_stress v b) h (rw e (no_stress_lem 0 (omega arith) (omega arith) (omega arith)))
