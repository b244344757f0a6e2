-- Theorems about `specs/Sound.antt`: 01, Store and sheet: what a sound store is, said of its slots in chain order, for any numbering; `is_sound` decides it.
-- Assumes nothing.
use Rattle.std.specs.Prelude.{ℕ, zero, suc, ◌≡◌, refl, true, not, ◌&&◌, List, [], ◌∷◌, map, eqb, leb, ltb, length, drop}
use Rattle.std.proofs.Common.{arith, ap, subst, eqb-true, eq-eqb, ne_eqb, leb-true, le-leb, ltb-true, lt-ltb}
use Rattle.std.proofs.lemmas.Bool.{eqb-false, not-true}
use Rattle.texts.specs.Choice.{both_true}
use Rattle.records.specs.Records.{record_at}
use Rattle.records.specs.Chain.{All, Linked, chain, end_of, chain_more, chain_linked, distinct}
use Rattle.slots_spec.specs.Slot.{is_slot}
use Rattle.store_spec.specs.Store.{next, last, used, slots, entry_at, order, entries, is_store_length, keys_differ, walks, is_rest, is_sound}
use Rattle.store_spec.specs.Sound.{Slot, Sound}

-- one slot of the walk
pub walk_slot : (b : List ℕ) (n p : ℕ) → walks b (used b) (suc n) p ≡ true → Slot b (next b p) × (walks b (used b) n (next b p) ≡ true)
unfolding walks
walk_slot b n p h =
    let q = next b p in
    let w = both_true (not (eqb q 0) && leb q (used b) && is_slot (record_at 512 b q)) (walks b (used b) n q) h in
    let s = both_true (not (eqb q 0) && leb q (used b)) (is_slot (record_at 512 b q)) w.0 in
    let i = both_true (not (eqb q 0)) (leb q (used b)) s.0 in
    (record { real = eqb-false q 0 (not-true (eqb q 0) i.0); inside = leb-true q (used b) i.1; sound = s.1 }, w.1)

-- the walk finds such an order
pub walk_linked : (b : List ℕ) (n p : ℕ) → walks b (used b) n p ≡ true
    → Linked (next b) p (chain (next b) n p) × (length (chain (next b) n p) ≡ n) × All (Slot b) (chain (next b) n p)
unfolding walks chain
walk_linked b zero p h = (eqb-true (next b p) 0 h, refl, tt)
walk_linked b (suc n) p h =
    let s = walk_slot b n p h in
    let ih = walk_linked b n (next b p) s.1 in
    let e = chain_more (next b) n p s.0.real in
    rw e ((refl, s.0.real, ih.0), ap suc ih.1, (s.0, ih.2))

-- and every such order is walked
walked : (b : List ℕ) (p : ℕ) (xs : List ℕ) → Linked (next b) p xs → All (Slot b) xs → walks b (used b) (length xs) p ≡ true
unfolding walks
walked b p [] h a = eq-eqb (next b p) 0 h
walked b p (x ∷ xs) h a =
    let ih = walked b x xs h.2 a.1 in
    rw (h.0, ne_eqb x 0 h.1, le-leb x (used b) a.0.inside, a.0.sound, ih)

-- the decision, in both directions
pub sound : (b : List ℕ) → is_sound b ≡ true → Sound b
unfolding is_sound order entries
sound b h =
    let k = both_true (is_store_length (length b) && ltb (used b) (slots b) && is_rest (drop 6 (record_at 512 b 0)) && walks b (used b) (used b) 0 && eqb (end_of 0 (order b)) (last b)) (keys_differ (entries b)) h in
    let e = both_true (is_store_length (length b) && ltb (used b) (slots b) && is_rest (drop 6 (record_at 512 b 0)) && walks b (used b) (used b) 0) (eqb (end_of 0 (order b)) (last b)) k.0 in
    let w = both_true (is_store_length (length b) && ltb (used b) (slots b) && is_rest (drop 6 (record_at 512 b 0))) (walks b (used b) (used b) 0) e.0 in
    let z = both_true (is_store_length (length b) && ltb (used b) (slots b)) (is_rest (drop 6 (record_at 512 b 0))) w.0 in
    let r = both_true (is_store_length (length b)) (ltb (used b) (slots b)) z.0 in
    let l = walk_linked b (used b) 0 w.1 in
    record {
      size = r.0;
      room = ltb-true (used b) (slots b) r.1;
      zeros = z.1;
      chained = order b;
      linked = l.0;
      once = (distinct (next b) 0 (order b) l.0).1;
      all = l.1;
      each = l.2;
      end = eqb-true (end_of 0 (order b)) (last b) e.1;
      keys = k.1;
    }

-- the order of a sound store is the one that is walked
pub order_is : (b : List ℕ) (s : Sound b) → order b ≡ s.chained
unfolding order
order_is b s = let n = s.all in chain_linked (next b) (used b) 0 s.chained s.linked (omega arith)

pub is_sound_lem : (b : List ℕ) → Sound b → is_sound b ≡ true
unfolding is_sound entries
is_sound_lem b s =
    let w = subst (λ (n : ℕ). walks b (used b) n 0 ≡ true) s.all (walked b 0 s.chained s.linked s.each) in
    rw (s.size, lt-ltb (used b) (slots b) s.room, s.zeros, w, order_is b s, eq-eqb (end_of 0 s.chained) (last b) s.end, s.keys)

pub entries_are : (b : List ℕ) (s : Sound b) → entries b ≡ map (entry_at b) s.chained
unfolding entries
entries_are b s = ap (λ (l : List ℕ). map (entry_at b) l) (order_is b s)
