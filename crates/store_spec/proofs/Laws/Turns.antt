-- One law for each turn, early end and end of the walks along a store's chain: what the slots behind p say, told by those behind the next.
-- Assumes nothing.
use Prim.Native.Nat.{ℕ, zero, suc, ◌+◌, ◌-◌, ◌*◌, ◌≤◌, ◌<◌}
use Rattle.std.proofs.Common.{not-suc-le-zero, ◌∙◌, take_all, drop-drop}
use native.Mathlib.Omega.{arith}
use Rattle.std.specs.Prelude.{◌≡◌, ◌≢◌, Bool, true, false, eqb, length, take, drop}
use Rattle.std.proofs.Math.Path.{refl, ap}
use mathlib.Core.List.{List, ◌++◌, map, append_assoc}
use borrow.Author.Tests.{eq-eqb, ne_eqb, le-leb, lt-leb}
use Rattle.texts.specs.Lists.{some}
use Rattle.records.specs.Fields.{put16}
use Rattle.records.specs.Records.{record_at, put_record}
use Rattle.records.specs.Chain.{chain, end_of, chain_turn, chain_stop, chain_end}
use Rattle.slots_spec.specs.Slot.{Entry, slot, is_slot}
use Rattle.store_spec.specs.Store.{next, last, entry_at, same_key, keys_differ, walks}
use Rattle.store_spec.specs.Adding.{seek, tied}

-- a slot that ends within the store has 512 bytes
-- the last of a chain
module _ (f : ℕ → ℕ) where
  pub end_turn : (left p q : ℕ) → 0 < left → q ≡ f p → q ≢ 0 → end_of p (chain f left p) ≡ end_of q (chain f (left - 1) q)
  unfolding end_of
  end_turn left p q h e n = ap (end_of p) (chain_turn f left p q h e n)

  pub end_stop : (left p : ℕ) → f p ≡ 0 → end_of p (chain f left p) ≡ p
  unfolding end_of
  end_stop left p e = ap (end_of p) (chain_stop f left p e)

  pub end_end : (left p : ℕ) → left ≤ 0 → end_of p (chain f left p) ≡ p
  unfolding end_of
  end_end left p h = ap (end_of p) (chain_end f left p h)

-- an entry that passes a test, among those in the chain
module _ (f : ℕ → ℕ) (g : ℕ → Entry) (test : Entry → Bool) where
  pub has_turn : (left p q : ℕ) → 0 < left → q ≡ f p → q ≢ 0 → test (g q) ≡ false → some test (map g (chain f left p)) ≡ some test (map g (chain f (left - 1) q))
  unfolding some
  has_turn left p q h e n t = ap (λ (l : List ℕ). some test (map g l)) (chain_turn f left p q h e n) ∙ rw t

  pub has_hit : (left p q : ℕ) → 0 < left → q ≡ f p → q ≢ 0 → test (g q) ≡ true → some test (map g (chain f left p)) ≡ true
  unfolding some
  has_hit left p q h e n t = ap (λ (l : List ℕ). some test (map g l)) (chain_turn f left p q h e n) ∙ rw t

  pub has_stop : (left p : ℕ) → f p ≡ 0 → some test (map g (chain f left p)) ≡ false
  unfolding some
  has_stop left p e = ap (λ (l : List ℕ). some test (map g l)) (chain_stop f left p e)

  pub has_end : (left p : ℕ) → left ≤ 0 → some test (map g (chain f left p)) ≡ false
  unfolding some
  has_end left p h = ap (λ (l : List ℕ). some test (map g l)) (chain_end f left p h)

-- keys in the chain
module _ (f : ℕ → ℕ) (g : ℕ → Entry) where
  differ : List ℕ → Bool
  differ l = keys_differ (map g l)

  pub keys_turn : (left p q : ℕ) → 0 < left → q ≡ f p → q ≢ 0 → some (same_key (g q)) (map g (chain f (left - 1) q)) ≡ false
      → keys_differ (map g (chain f left p)) ≡ keys_differ (map g (chain f (left - 1) q))
  unfolding keys_differ differ
  keys_turn left p q h e n t = ap differ (chain_turn f left p q h e n) ∙ rw t

  pub keys_hit : (left p q : ℕ) → 0 < left → q ≡ f p → q ≢ 0 → some (same_key (g q)) (map g (chain f (left - 1) q)) ≡ true
      → keys_differ (map g (chain f left p)) ≡ false
  unfolding keys_differ differ
  keys_hit left p q h e n t = ap differ (chain_turn f left p q h e n) ∙ rw t

  pub keys_stop : (left p : ℕ) → f p ≡ 0 → keys_differ (map g (chain f left p)) ≡ true
  unfolding keys_differ differ
  keys_stop left p e = ap differ (chain_stop f left p e)

  pub keys_end : (left p : ℕ) → left ≤ 0 → keys_differ (map g (chain f left p)) ≡ true
  unfolding keys_differ differ
  keys_end left p h = ap differ (chain_end f left p h)

-- the walk that counts
module _ (b : List ℕ) (top : ℕ) where
  pub walks_turn : (left p q : ℕ) → 0 < left → q ≡ next b p → q ≢ 0 → q ≤ top → is_slot (record_at 512 b q) ≡ true → walks b top left p ≡ walks b top (left - 1) q
  unfolding walks
  walks_turn zero p q h e n l s = absurd (not-suc-le-zero h)
  walks_turn (suc left) p q h e n l s = let k : suc left - 1 ≡ left = omega arith in rw (k, ← e, ne_eqb q 0 n, le-leb q top l, s)

  pub walks_short : (left p : ℕ) → 0 < left → next b p ≡ 0 → walks b top left p ≡ false
  unfolding walks
  walks_short zero p h e = absurd (not-suc-le-zero h)
  walks_short (suc left) p h e = rw (eq-eqb (next b p) 0 e)

  pub walks_past : (left p q : ℕ) → 0 < left → q ≡ next b p → q ≢ 0 → top < q → walks b top left p ≡ false
  unfolding walks
  walks_past zero p q h e n l = absurd (not-suc-le-zero h)
  walks_past (suc left) p q h e n l = rw (← e, ne_eqb q 0 n, lt-leb q top l)

  pub walks_stop : (left p q : ℕ) → 0 < left → q ≡ next b p → q ≢ 0 → q ≤ top → is_slot (record_at 512 b q) ≡ false → walks b top left p ≡ false
  unfolding walks
  walks_stop zero p q h e n l s = absurd (not-suc-le-zero h)
  walks_stop (suc left) p q h e n l s = rw (← e, ne_eqb q 0 n, le-leb q top l, s)

  pub walks_end : (left p : ℕ) → left ≤ 0 → walks b top left p ≡ eqb (next b p) 0
  unfolding walks
  walks_end left p h = let e : left ≡ 0 = omega arith in rw e

-- the search for a wanted entry
module _ (b : List ℕ) (wanted : Entry → Bool) where
  pub seek_turn : (left p q : ℕ) → 0 < left → q ≡ next b p → q ≢ 0 → wanted (entry_at b q) ≡ false → seek b wanted left p ≡ seek b wanted (left - 1) q
  unfolding seek
  seek_turn zero p q h e n w = absurd (not-suc-le-zero h)
  seek_turn (suc left) p q h e n w = let k : suc left - 1 ≡ left = omega arith in rw (k, ← e, ne_eqb q 0 n, w)

  pub seek_hit : (left p q : ℕ) → 0 < left → q ≡ next b p → q ≢ 0 → wanted (entry_at b q) ≡ true → seek b wanted left p ≡ p
  unfolding seek
  seek_hit zero p q h e n w = absurd (not-suc-le-zero h)
  seek_hit (suc left) p q h e n w = rw (← e, ne_eqb q 0 n, w)

  pub seek_stop : (left p : ℕ) → next b p ≡ 0 → seek b wanted left p ≡ p
  unfolding seek
  seek_stop zero p e = refl
  seek_stop (suc left) p e = rw (eq-eqb (next b p) 0 e)

  pub seek_end : (left p : ℕ) → left ≤ 0 → seek b wanted left p ≡ p
  unfolding seek
  seek_end left p h = let e : left ≡ 0 = omega arith in rw e

-- a slot's bytes replaced by the slot of an entry, as the code lends and writes that part; then the two fields
pub tied_written : (b r s t : List ℕ) (n l : ℕ) (e : Entry) → l ≡ last b → r ≡ slot 0 e → length r ≤ 512
    → s ≡ put16 (take (512 * n) b ++ (r ++ drop (512 * n + 512 - 512 * n) (drop (512 * n) b))) (512 * l) n → t ≡ put16 s 2 n → t ≡ tied b n e
unfolding tied put_record
tied_written b r s t n l e hl hr h hs ht =
    let w : 512 * n + 512 - 512 * n ≡ 512 = omega arith in
    ht ∙ rw (hs, hl, w, drop-drop, ← hr, take_all 512 r h, append_assoc (take (512 * n) b) r (drop (512 * n + 512) b))
