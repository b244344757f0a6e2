-- Theorems about `specs/Laws/Turns.antt`: One walk over the items in reading order decides whether each is well placed, each syllable is sung and the phones
-- are chained: one law for a turn, an early stop and the end, and one that it asks what `is_sound` asks.
-- Assumes nothing.
use Prim.Native.Nat.{ℕ, zero, suc, ◌-◌, ◌≤◌, ◌<◌}
use Rattle.std.proofs.Common.{not-suc-le-zero}
use native.Mathlib.Omega.{arith}
use Rattle.std.specs.Prelude.{◌≡◌, Bool, ◌&&◌, List, ◌∷◌}
use Rattle.std.proofs.Math.Path.{refl}
use Rattle.std.proofs.Math.Bool.{true, false, and-true, and-false}
use Rattle.std.proofs.Math.Dec.{eqb}
use Rattle.texts.specs.Choice.{cases, never, both_true}
use Rattle.texts.specs.Lists.{every}
use Rattle.records.specs.Chain.{chain, chain_more}
use Rattle.items_spec.specs.Item.{Item}
use Rattle.utterance_spec.specs.Sheet.{at, used, items, version, after, is_sung, is_chained, is_placed, walks, order}
use Rattle.utterance_spec.proofs.Decided.{placed}
use Rattle.utterance_spec.specs.Laws.Turns.{is_tied, last_phone, is_last, is_met, is_ordered}

-- an item that is well placed is inside the sheet
pub placed_inside : (b : List ℕ) (n : ℕ) → used b < items b → is_placed b n ≡ true → n < items b
placed_inside b n r h = let i = (placed b n h).0.inside in omega arith

-- an item x behind phone q: it is tied to q both ways if it is a phone; the phone that items behind it are tied to; and q as the last phone
module _ (S : ℕ → Item) where
  pub last_inside : (n q x : ℕ) → q < n → x < n → last_phone S q x < n
  unfolding last_phone
  last_inside n q x h k = cases (eqb (S x).kind 3) (λ e. rw e k) (λ e. rw e h)

  chained_tied : (q x : ℕ) (xs : List ℕ) → is_tied S q x ≡ true → is_chained S q (x ∷ xs) ≡ is_chained S (last_phone S q x) xs
  unfolding is_chained is_tied last_phone
  chained_tied q x xs t =
      cases (eqb (S x).kind 3)
      (λ e. let u : (eqb (S q).follow x && eqb (S x).prev q) ≡ true = rw e at t in rw (e, u))
      (λ e. rw e)

  chained_loose : (q x : ℕ) (xs : List ℕ) → is_tied S q x ≡ false → is_chained S q (x ∷ xs) ≡ false
  unfolding is_chained is_tied
  chained_loose q x xs t =
      cases (eqb (S x).kind 3)
      (λ e. let u : (eqb (S q).follow x && eqb (S x).prev q) ≡ false = rw e at t in rw (e, u))
      (λ e. let u : true ≡ false = rw e at t in never true refl u)

  -- an item met, sung and tied leaves the items behind it to decide
  met_tied : (v q x : ℕ) (xs : List ℕ) (w o : Bool) → o ≡ (w && every (is_sung S v) xs && is_chained S (last_phone S q x) xs)
      → (is_sung S v x && is_tied S q x && o) ≡ (w && every (is_sung S v) (x ∷ xs) && is_chained S q (x ∷ xs))
  unfolding every
  met_tied v q x xs w o h =
      cases (is_sung S v x)
      (λ f. cases (is_tied S q x) (λ t. rw (f, t, chained_tied q x xs t) h) (λ t. rw (f, t, chained_loose q x xs t, and-false)))
      (λ f. rw (f, and-false))

-- and an item met is inside
pub met_inside : (b : List ℕ) (q x : ℕ) → used b < items b → is_met b q x ≡ true → x < items b
unfolding is_met
met_inside b q x r h = placed_inside b x r (both_true (is_placed b x) (is_sung (at b) (version b) x && is_tied (at b) q x) h).0

module _ (b : List ℕ) where
  pub ordered_turn : (left p q x r : ℕ) → 0 < left → x ≡ after (at b) p → is_met b q x ≡ true → r ≡ last_phone (at b) q x → is_ordered b left p q ≡ is_ordered b (left - 1) x r
  unfolding is_ordered
  ordered_turn zero p q x r h e t l = absurd (not-suc-le-zero h)
  ordered_turn (suc left) p q x r h e t l = let k : suc left - 1 ≡ left = omega arith in rw (k, ← e, t, l)

  pub ordered_stop : (left p q x : ℕ) → 0 < left → x ≡ after (at b) p → is_met b q x ≡ false → is_ordered b left p q ≡ false
  unfolding is_ordered
  ordered_stop zero p q x h e t = absurd (not-suc-le-zero h)
  ordered_stop (suc left) p q x h e t = rw (← e, t)

  pub ordered_end : (left p q : ℕ) → left ≤ 0 → is_ordered b left p q ≡ (eqb (after (at b) p) 0 && is_last (at b) q)
  unfolding is_ordered
  ordered_end left p q h = let e : left ≡ 0 = omega arith in rw e

  -- it asks what the walk, the syllables and the chain ask
  pub ordered_is : (n p q : ℕ)
      → is_ordered b n p q ≡ (walks b n p && every (is_sung (at b) (version b)) (chain (after (at b)) n p) && is_chained (at b) q (chain (after (at b)) n p))
  unfolding is_ordered is_met walks chain every is_chained is_last
  ordered_is zero p q = rw and-true
  ordered_is (suc n) p q =
      let x = after (at b) p in
      let ih = ordered_is n x (last_phone (at b) q x) in
      cases (is_placed b x)
      (λ e. rw (chain_more (after (at b)) n p (placed b x e).0.real, e) (met_tied (at b) (version b) q x (chain (after (at b)) n x) (walks b n x) (is_ordered b n x (last_phone (at b) q x)) ih))
      (λ e. rw e)

  -- behind item 0, beside a test that comes before
  pub ordered_sound : (t : Bool) → (t && is_ordered b (used b) 0 0) ≡ (t && walks b (used b) 0 && every (is_sung (at b) (version b)) (order b) && is_chained (at b) 0 (order b))
  unfolding order
  ordered_sound true = ordered_is (used b) 0 0
  ordered_sound false = refl
