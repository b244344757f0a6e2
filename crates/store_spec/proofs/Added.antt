-- After adding to a sound store it is sound, its entries are the old ones without that key and then the new one, and slots that are not involved keep their bytes.
-- Assumes nothing.
use Rattle.std.specs.Prelude.{ℕ, ◌+◌, ◌<◌, ◌≡◌, refl, ◌≢◌, true, false, List, ◌∷◌, ◌++◌, map, leb}
use Rattle.std.proofs.Common.{arith, sym, ap, ◌∙◌, subst, eq-eqb, ne_eqb, leb-false}
use Rattle.texts.specs.Choice.{cases, never}
use Rattle.texts.specs.Lists.{some}
use Rattle.records.specs.Fields.{put16}
use Rattle.records.specs.Records.{record_at}
use Rattle.records.specs.Chain.{All, all_right}
use Rattle.slots_spec.specs.Slot.{Entry, Fits}
use Rattle.store_spec.specs.Store.{next, last, used, slots, entry_at, entries, same_key}
use Rattle.store_spec.specs.Adding.{seek, cut_out, tied, placed, added, is_full}
use Rattle.store_spec.specs.Sound.{Slot, Sound}
use Rattle.store_spec.proofs.Sound.{entries_are}
use Rattle.store_spec.proofs.Laws.Sought.{Sought, none, found, sought}
use Rattle.store_spec.specs.Result.{Added}
use Rattle.store_spec.proofs.Laws.New.{added_new_lem, new_other}
use Rattle.store_spec.proofs.Laws.Known.{added_known, known_other}

-- what is written for a new key, and for a known one
new_key : (b : List ℕ) (e : Entry) (p : ℕ) → next b p ≡ 0 → placed b e p ≡ put16 (tied b (used b + 1) e) 4 (used b + 1)
unfolding placed
new_key b e p z = rw (eq-eqb (next b p) 0 z)

known_key : (b : List ℕ) (e : Entry) (p n : ℕ) → next b p ≡ n → n ≢ 0 → placed b e p ≡ tied (cut_out b p) n e
unfolding placed
known_key b e p n z ne = rw (z, ne_eqb n 0 ne)

-- where there is room and no entry of that key, there is an unused slot
spare : (b : List ℕ) (e : Entry) (s : Sound b) → is_full b e ≡ false → some (same_key e) (map (entry_at b) s.chained) ≡ false → used b + 1 < slots b
unfolding is_full
spare b e s free a =
    let n : some (same_key e) (entries b) ≡ false = ap (some (same_key e)) (entries_are b s) ∙ a in
    cases (leb (slots b) (used b + 1))
    (λ l. let z : true ≡ false = rw (n, l) at free in never true refl z)
    (λ l. leb-false (slots b) (used b + 1) l)

-- a slot of the chain is not slot 0
real : (b : List ℕ) (s : Sound b) (xs ys : List ℕ) (n : ℕ) → s.chained ≡ xs ++ n ∷ ys → n ≢ 0
real b s xs ys n a = (all_right (Slot b) xs (n ∷ ys) (subst (λ (l : List ℕ). All (Slot b) l) a s.each)).0.real

-- an entry that there is room for
pub room : (b : List ℕ) (e : Entry) (s : Sound b) → Fits e → is_full b e ≡ false → Added b (added b e) e
unfolding added
room b e s f free = go (seek b (same_key e) (used b) 0) (sought b (same_key e) (used b) 0 s.chained s.linked (omega (arith, s.all)))
  where
    go : (p : ℕ) → Sought b (same_key e) 0 p s.chained → Added b (placed b e p) e
    go p (none a i z) = subst (λ (c : List ℕ). Added b c e) (sym (new_key b e p z)) (added_new_lem b e s f a (spare b e s free a))
    go p (found xs ys n a i z o w) = subst (λ (c : List ℕ). Added b c e) (sym (known_key b e p n z (real b s xs ys n a) ∙ ap (λ (q : ℕ). tied (cut_out b q) n e) i)) (added_known b e s f xs ys n a o w)

-- slots that are not involved keep their bytes: all but slot 0, the last, the one before the entry's, and the entry's own
pub others : (b : List ℕ) (e : Entry) (s : Sound b) → Fits e → is_full b e ≡ false → (m : ℕ) → m ≢ 0 → m ≢ last b
    → m ≢ seek b (same_key e) (used b) 0 → m ≢ next b (seek b (same_key e) (used b) 0) → m ≢ used b + 1 → record_at 512 (added b e) m ≡ record_at 512 b m
unfolding added
others b e s f free m z nl np nn nu = go (seek b (same_key e) (used b) 0) (sought b (same_key e) (used b) 0 s.chained s.linked (omega (arith, s.all))) np nn
  where
    go : (p : ℕ) → Sought b (same_key e) 0 p s.chained → m ≢ p → m ≢ next b p → record_at 512 (placed b e p) m ≡ record_at 512 b m
    go p (none a i o) np nn = rw (new_key b e p o) (new_other b e s f a (spare b e s free a) m z nu nl)
    go p (found xs ys n a i o x w) np nn =
        rw (known_key b e p n o (real b s xs ys n a), i) (known_other b e s f xs ys n a x w m z (λ q. nn (q ∙ sym o)) (λ q. np (q ∙ sym i)) nl)
