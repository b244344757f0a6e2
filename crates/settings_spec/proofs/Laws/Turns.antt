-- One law for each turn, early end and end of the walks along a settings store's chain.
-- Assumes nothing.
use Prim.Native.Nat.{ℕ, zero, suc, ◌+◌, ◌-◌, ◌≤◌, ◌<◌}
use Rattle.std.proofs.Common.{not-suc-le-zero, ◌∙◌}
use native.Mathlib.Omega.{arith}
use Rattle.std.specs.Prelude.{◌≡◌, ◌≢◌, Bool, true, false, not, eqb}
use Rattle.std.proofs.Math.Path.{refl, ap}
use mathlib.Core.List.{List, [], ◌∷◌, map}
use borrow.Author.Tests.{eq-eqb, ne_eqb, eqb-false}
use Rattle.texts.specs.Choice.{cases}
use Rattle.texts.specs.Lists.{some}
use Rattle.texts.specs.Text.{same, distinct}
use Rattle.texts.specs.Laws.Library.{same_pointwise}
use Rattle.records.specs.Chain.{All, chain, chain_turn, chain_stop, chain_end}
use Rattle.settings_spec.specs.Settings.{next, name_at, is_record, walks, named}

module _ (b : List ℕ) where
  -- the walk
  pub walks_turn : (left p q : ℕ) → 0 < left → q ≡ next b p → q ≢ 0 → is_record b q ≡ true → walks b left p ≡ walks b (left - 1) q
  unfolding walks
  walks_turn zero p q h e n r = absurd (not-suc-le-zero h)
  walks_turn (suc left) p q h e n r = let k : suc left - 1 ≡ left = omega arith in rw (k, ← e, ne_eqb q 0 n, r)

  -- the same where k of n records are behind
  pub walks_step : (n k p q : ℕ) → k < n → q ≡ next b p → q ≢ 0 → is_record b q ≡ true → walks b (n - k) p ≡ walks b (n - (k + 1)) q
  walks_step n k p q h e z r = let m : n - k - 1 ≡ n - (k + 1) = omega arith in rw (← m) (walks_turn (n - k) p q (omega arith) e z r)

  pub walks_done : (left p : ℕ) → next b p ≡ 0 → walks b left p ≡ true
  unfolding walks
  walks_done zero p e = eq-eqb (next b p) 0 e
  walks_done (suc left) p e = rw (eq-eqb (next b p) 0 e)

  pub walks_stop : (left p q : ℕ) → 0 < left → q ≡ next b p → q ≢ 0 → is_record b q ≡ false → walks b left p ≡ false
  unfolding walks
  walks_stop zero p q h e n r = absurd (not-suc-le-zero h)
  walks_stop (suc left) p q h e n r = rw (← e, ne_eqb q 0 n, r)

  pub walks_end : (left p : ℕ) → left ≤ 0 → walks b left p ≡ eqb (next b p) 0
  unfolding walks
  walks_end left p h = let e : left ≡ 0 = omega arith in rw e

  -- the search for a name
  module _ (name : List ℕ) where
    pub named_turn : (left p q : ℕ) → 0 < left → q ≡ next b p → q ≢ 0 → same name (name_at b q) ≡ false
        → named b name (chain (next b) left p) ≡ named b name (chain (next b) (left - 1) q)
    unfolding named
    named_turn left p q h e n t = ap (named b name) (chain_turn (next b) left p q h e n) ∙ rw t

    -- the same where k of n records are behind
    pub named_step : (n k p q : ℕ) → k < n → q ≡ next b p → q ≢ 0 → same name (name_at b q) ≡ false
        → named b name (chain (next b) (n - k) p) ≡ named b name (chain (next b) (n - (k + 1)) q)
    named_step n k p q h e z t = let m : n - k - 1 ≡ n - (k + 1) = omega arith in rw (← m) (named_turn (n - k) p q (omega arith) e z t)

    pub named_hit : (left p q : ℕ) → 0 < left → q ≡ next b p → q ≢ 0 → same name (name_at b q) ≡ true → named b name (chain (next b) left p) ≡ q
    unfolding named
    named_hit left p q h e n t = ap (named b name) (chain_turn (next b) left p q h e n) ∙ rw t

    pub named_stop : (left p : ℕ) → next b p ≡ 0 → named b name (chain (next b) left p) ≡ 0
    unfolding named
    named_stop left p e = ap (named b name) (chain_stop (next b) left p e)

    pub named_end : (left p : ℕ) → left ≤ 0 → named b name (chain (next b) left p) ≡ 0
    unfolding named
    named_end left p h = ap (named b name) (chain_end (next b) left p h)

    -- a record of that name is found exactly if there is one, among records that are none of them record 0
    named_some : (is : List ℕ) → All (λ (i : ℕ). i ≢ 0) is → some (same name) (map (name_at b) is) ≡ not (eqb (named b name is) 0)
    unfolding named some
    named_some [] a = refl
    named_some (i ∷ is) a =
        let ih = named_some is a.1 in
        cases (same name (name_at b i)) (λ e. rw (e, ne_eqb i 0 a.0)) (λ e. rw (e, ih))

  pub chain_real : (n p : ℕ) → All (λ (i : ℕ). i ≢ 0) (chain (next b) n p)
  unfolding chain
  chain_real zero p = tt
  chain_real (suc n) p =
      let ih = chain_real n (next b p) in
      cases (eqb (next b p) 0) (λ e. rw e tt) (λ e. rw e (eqb-false (next b p) 0 e, ih))

  pub repeated : (name : List ℕ) (n p : ℕ) → some (same name) (map (name_at b) (chain (next b) n p)) ≡ not (eqb (named b name (chain (next b) n p)) 0)
  repeated name n p = named_some name (chain (next b) n p) (chain_real n p)

  -- names in the chain
  differ : List ℕ → Bool
  differ l = distinct (map (name_at b) l)

  pub differ_turn : (left p q : ℕ) → 0 < left → q ≡ next b p → q ≢ 0 → named b (name_at b q) (chain (next b) (left - 1) q) ≡ 0
      → distinct (map (name_at b) (chain (next b) left p)) ≡ distinct (map (name_at b) (chain (next b) (left - 1) q))
  unfolding distinct differ
  differ_turn left p q h e n t = ap differ (chain_turn (next b) left p q h e n) ∙ rw (repeated (name_at b q) (left - 1) q, t)

  pub differ_hit : (left p q : ℕ) → 0 < left → q ≡ next b p → q ≢ 0 → named b (name_at b q) (chain (next b) (left - 1) q) ≢ 0
      → distinct (map (name_at b) (chain (next b) left p)) ≡ false
  unfolding distinct differ
  differ_hit left p q h e n t =
      ap differ (chain_turn (next b) left p q h e n)
      ∙ rw (repeated (name_at b q) (left - 1) q, ne_eqb (named b (name_at b q) (chain (next b) (left - 1) q)) 0 t)

  pub differ_stop : (left p : ℕ) → next b p ≡ 0 → distinct (map (name_at b) (chain (next b) left p)) ≡ true
  unfolding distinct differ
  differ_stop left p e = ap differ (chain_stop (next b) left p e)

  pub differ_end : (left p : ℕ) → left ≤ 0 → distinct (map (name_at b) (chain (next b) left p)) ≡ true
  unfolding distinct differ
  differ_end left p h = ap differ (chain_end (next b) left p h)

-- what a loop over the chain needs of them
pub ruleset named_turns = (named_step, named_hit, named_stop, named_end, same_pointwise)

pub ruleset walks_turns = (walks_step, walks_done, walks_stop, walks_end)

pub ruleset differ_turns = (differ_turn, differ_hit, differ_stop, differ_end)
