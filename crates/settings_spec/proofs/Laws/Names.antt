-- Theorems about `specs/Laws/Names.antt`: A table that gives a record for a name: where it gives each record of a chain back for its own name, no two records have one name, whatever is in it.
-- Assumes nothing.
use Prim.Native.Nat.{ℕ, zero, suc, ◌+◌, ◌-◌, ◌%◌, ◌≤◌, ◌<◌}
use Rattle.std.proofs.Common.{not-suc-le-zero, sym, ◌∙◌}
use native.Mathlib.Omega.{arith}
use Rattle.std.specs.Prelude.{◌≡◌, ◌≢◌, get_or}
use Rattle.std.proofs.Math.Path.{refl, ap}
use Rattle.std.proofs.Math.Bool.{true, false}
use mathlib.Core.List.{List, [], ◌∷◌, map}
use Rattle.std.proofs.Math.Dec.{eqb}
use borrow.Author.Tests.{eq-eqb, ne_eqb, eqb-true}
use Rattle.texts.specs.Choice.{cases, never, is_false}
use Rattle.texts.specs.Lists.{some}
use Rattle.texts.specs.Text.{same, distinct, same_true, eq_same}
use Rattle.texts.specs.Laws.Library.{same_pointwise}
use Rattle.records.specs.Chain.{All, Distinct, chain, chain_turn, chain_stop, chain_end, distinct as once}
use Rattle.settings_spec.specs.Settings.{next, name_at, walks, named, record_of}
use Rattle.settings_spec.proofs.Sound.{walked}
use Rattle.settings_spec.proofs.Laws.Turns.{chain_real}
use Rattle.settings_spec.specs.Laws.Names.{place_of, sought, given, first_lost}

module _ (b table : List ℕ) where
  -- the search, turn by turn
  module _ (name : List ℕ) where
    pub sought_free : (left k : ℕ) → 0 < left → get_or table k 0 ≡ 0 → sought b table name left k ≡ record_of b name
    unfolding sought
    sought_free zero k h e = absurd (not-suc-le-zero h)
    sought_free (suc n) k h e = rw (eq-eqb (get_or table k 0) 0 e)

    pub sought_hit : (left k : ℕ) → 0 < left → get_or table k 0 ≢ 0 → same name (name_at b (get_or table k 0)) ≡ true
        → sought b table name left k ≡ get_or table k 0
    unfolding sought
    sought_hit zero k h n t = absurd (not-suc-le-zero h)
    sought_hit (suc left) k h n t = rw (ne_eqb (get_or table k 0) 0 n, t)

    pub sought_turn : (left k : ℕ) → 0 < left → get_or table k 0 ≢ 0 → same name (name_at b (get_or table k 0)) ≡ false
        → sought b table name left k ≡ sought b table name (left - 1) ((k + 1) % 4096)
    unfolding sought
    sought_turn zero k h n t = absurd (not-suc-le-zero h)
    sought_turn (suc left) k h n t = let e : suc left - 1 ≡ left = omega arith in rw (e, ne_eqb (get_or table k 0) 0 n, t)

    -- the same where the places are counted on from where the name is sought first, and taken round the table
    pub sought_start : (k : ℕ) → k ≡ place_of name → k < 4096 → given b table name ≡ sought b table name (k + 64 - k) (k % 4096)
    unfolding given
    sought_start k e h = let d : k + 64 - k ≡ 64 = omega arith in let m : k % 4096 ≡ k = omega arith in rw (d, m, e)

    pub sought_step : (end at : ℕ) → at < end → get_or table (at % 4096) 0 ≢ 0 → same name (name_at b (get_or table (at % 4096) 0)) ≡ false
        → sought b table name (end - at) (at % 4096) ≡ sought b table name (end - (at + 1)) ((at + 1) % 4096)
    sought_step end at h n t =
        let d : end - at - 1 ≡ end - (at + 1) = omega arith in
        let m : (at % 4096 + 1) % 4096 ≡ (at + 1) % 4096 = omega arith in
        rw (← d, ← m) (sought_turn (end - at) (at % 4096) (omega arith) n t)

    pub sought_end : (left k : ℕ) → left ≤ 0 → sought b table name left k ≡ record_of b name
    unfolding sought
    sought_end left k h = let e : left ≡ 0 = omega arith in rw e

  -- the first record that is lost, turn by turn
  pub lost_turn : (left p q : ℕ) → 0 < left → q ≡ next b p → q ≢ 0 → given b table (name_at b q) ≡ q
      → first_lost b table (chain (next b) left p) ≡ first_lost b table (chain (next b) (left - 1) q)
  unfolding first_lost
  lost_turn left p q h e n t = ap (first_lost b table) (chain_turn (next b) left p q h e n) ∙ rw (eq-eqb (given b table (name_at b q)) q t)

  -- the same where k of n records are behind
  pub lost_step : (n k p q : ℕ) → k < n → q ≡ next b p → q ≢ 0 → given b table (name_at b q) ≡ q
      → first_lost b table (chain (next b) (n - k) p) ≡ first_lost b table (chain (next b) (n - (k + 1)) q)
  lost_step n k p q h e z t = let m : n - k - 1 ≡ n - (k + 1) = omega arith in rw (← m) (lost_turn (n - k) p q (omega arith) e z t)

  pub lost_hit : (left p q : ℕ) → 0 < left → q ≡ next b p → q ≢ 0 → given b table (name_at b q) ≢ q → first_lost b table (chain (next b) left p) ≡ q
  unfolding first_lost
  lost_hit left p q h e n t = ap (first_lost b table) (chain_turn (next b) left p q h e n) ∙ rw (ne_eqb (given b table (name_at b q)) q t)

  pub lost_stop : (left p : ℕ) → next b p ≡ 0 → first_lost b table (chain (next b) left p) ≡ 0
  unfolding first_lost
  lost_stop left p e = ap (first_lost b table) (chain_stop (next b) left p e)

  pub lost_end : (left p : ℕ) → left ≤ 0 → first_lost b table (chain (next b) left p) ≡ 0
  unfolding first_lost
  lost_end left p h = ap (first_lost b table) (chain_end (next b) left p h)

  -- records that are given back for their names: two of one name would be one record
  none_named : (i : ℕ) (is : List ℕ) → given b table (name_at b i) ≡ i → All (λ (j : ℕ). i ≢ j) is → All (λ (j : ℕ). j ≢ 0) is
      → first_lost b table is ≡ 0
      → some (same (name_at b i)) (map (name_at b) is) ≡ false
  unfolding first_lost some
  none_named i [] g d r l = refl
  none_named i (j ∷ js) g d r l =
      cases (eqb (given b table (name_at b j)) j)
      (λ e.
      let m : first_lost b table js ≡ 0 = rw e at l in
      let k = eqb-true (given b table (name_at b j)) j e in
      let n : same (name_at b i) (name_at b j) ≡ false =
      is_false (same (name_at b i) (name_at b j)) (λ t. d.0 (sym g ∙ ap (given b table) (same_true (name_at b i) (name_at b j) t) ∙ k)) in
      rw n (none_named i js g d.1 r.1 m))
      (λ e. let z : j ≡ 0 = rw e at l in absurd (r.0 z))

  apart : (is : List ℕ) → Distinct is → All (λ (j : ℕ). j ≢ 0) is → first_lost b table is ≡ 0 → distinct (map (name_at b) is) ≡ true
  unfolding first_lost distinct
  apart [] d r l = refl
  apart (i ∷ is) d r l =
      cases (eqb (given b table (name_at b i)) i)
      (λ e.
      let m : first_lost b table is ≡ 0 = rw e at l in
      let k = eqb-true (given b table (name_at b i)) i e in
      rw (none_named i is k d.0 r.1 m) (apart is d.1 r.1 m))
      (λ e. let z : i ≡ 0 = rw e at l in absurd (r.0 z))

  pub none_lost : (n : ℕ) → walks b n 0 ≡ true → first_lost b table (chain (next b) n 0) ≡ 0
      → distinct (map (name_at b) (chain (next b) n 0)) ≡ true
  none_lost n w l =
      let xs = chain (next b) n 0 in
      apart xs (once (next b) 0 xs (walked b n 0 w).0).1 (chain_real b n 0) l

  -- a lost record is one of them
  lost_in : (i : ℕ) (is : List ℕ) → first_lost b table is ≡ i → i ≢ 0 → some (eqb i) is ≡ true
  unfolding first_lost some
  lost_in i [] h n = absurd (n (sym h))
  lost_in i (j ∷ js) h n =
      cases (eqb (given b table (name_at b j)) j)
      (λ e. let g : first_lost b table js ≡ i = rw e at h in let ih = lost_in i js g n in cases (eqb i j) (λ t. rw t) (λ t. rw (t, ih)))
      (λ e. let g : j ≡ i = rw e at h in rw (eq-eqb i j (sym g)))

  -- a record whose name has another record first: its name stands twice
  has_name : (i : ℕ) (is : List ℕ) → some (eqb i) is ≡ true → some (same (name_at b i)) (map (name_at b) is) ≡ true
  unfolding some
  has_name i [] h = h
  has_name i (j ∷ js) h =
      cases (eqb i j)
      (λ e. rw (eq_same (name_at b i) (name_at b j) (ap (name_at b) (eqb-true i j e))))
      (λ e. cases (same (name_at b i) (name_at b j)) (λ t. rw t) (λ t. rw t (has_name i js (rw e at h))))

  twice : (i : ℕ) (is : List ℕ) → some (eqb i) is ≡ true → named b (name_at b i) is ≢ i → distinct (map (name_at b) is) ≡ false
  unfolding some named distinct
  twice i [] h n = never false h refl
  twice i (j ∷ js) h n =
      cases (same (name_at b i) (name_at b j))
      (λ t.
      let d : j ≢ i = rw t at n in
      let m : some (eqb i) js ≡ true = rw (ne_eqb i j (λ z. d (sym z))) at h in
      let e = same_true (name_at b i) (name_at b j) t in
      let s : some (same (name_at b j)) (map (name_at b) js) ≡ true = rw (← e) (has_name i js m) in
      rw s)
      (λ t.
      let u : eqb i j ≡ true → same (name_at b i) (name_at b j) ≡ true = (λ z. eq_same (name_at b i) (name_at b j) (ap (name_at b) (eqb-true i j z))) in
      let d : eqb i j ≡ false = is_false (eqb i j) (λ z. never (same (name_at b i) (name_at b j)) (u z) t) in
      let m : some (eqb i) js ≡ true = rw d at h in
      let o : named b (name_at b i) js ≢ i = rw t at n in
      cases (some (same (name_at b j)) (map (name_at b) js)) (λ s. rw s) (λ s. rw s (twice i js m o)))

  pub lost_twice : (n : ℕ) → first_lost b table (chain (next b) n 0) ≢ 0
      → named b (name_at b (first_lost b table (chain (next b) n 0))) (chain (next b) n 0) ≢ first_lost b table (chain (next b) n 0)
      → distinct (map (name_at b) (chain (next b) n 0)) ≡ false
  lost_twice n l h = let xs = chain (next b) n 0 in twice (first_lost b table xs) xs (lost_in (first_lost b table xs) xs refl l) h

-- what loops over the table and the chain need of them
pub ruleset sought_turns = (sought_start, sought_free, sought_hit, sought_step, sought_end, same_pointwise)

pub ruleset lost_turns = (lost_step, lost_hit, lost_stop, lost_end)
