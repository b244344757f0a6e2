-- Theorems about `specs/Result.antt`: What adding must leave: a sound store with the adding rule's entries, as long as it was, and its count as it was.
-- Assumes nothing.
use Rattle.std.specs.Prelude.{ℕ, ◌%◌, ◌≤◌, ◌<◌, ◌≡◌, refl, true, ◌&&◌, List, [], ◌∷◌, map, eqb, leb, length, drop}
use Rattle.std.proofs.Common.{arith, sym, ap, ◌∙◌, subst, leb-true}
use Rattle.std.proofs.lemmas.List.{length-map}
use Rattle.texts.specs.Choice.{both_true}
use Rattle.records.specs.Records.{record_at}
use Rattle.records.specs.Chain.{All, Linked, end_of, all_map, all_end, distinct}
use Rattle.slots_spec.specs.Slot.{Entry}
use Rattle.store_spec.specs.Store.{next, last, used, slots, entry_at, entries, is_store_length}
use Rattle.store_spec.specs.Adding.{adding}
use Rattle.store_spec.specs.Sound.{Slot, Sound}
use Rattle.store_spec.proofs.Sound.{entries_are}
use Rattle.store_spec.proofs.Laws.Bytes.{Kept}
use Rattle.store_spec.proofs.Laws.Keys.{keys_adding}
use Rattle.store_spec.specs.Result.{Added}

pub all_of : (P : ℕ → Type 0) (xs : List ℕ) → ((x : ℕ) → P x) → All P xs
all_of P [] h = tt
all_of P (x ∷ xs) h = (h x, all_of P xs h)

-- entries of slots that are kept
pub map_kept : (b c : List ℕ) (xs : List ℕ) → All (λ (n : ℕ). Kept b c n) xs → map (entry_at c) xs ≡ map (entry_at b) xs
map_kept b c [] k = refl
map_kept b c (x ∷ xs) k = let ih = map_kept b c xs k.1 in rw (k.0.entry, ih)

-- a store that holds a chain whose entries are the adding rule's
module _ (b c : List ℕ) (e : Entry) (s : Sound b) (xs : List ℕ) (long : length c ≡ length b) (h : Linked (next c) 0 xs) (end : end_of 0 xs ≡ last c)
    (all : length xs ≡ used c) (room : used c < slots b) (each : All (Slot c) xs) (zeros : drop 6 (record_at 512 c 0) ≡ drop 6 (record_at 512 b 0))
    (are : map (entry_at c) xs ≡ adding e (map (entry_at b) s.chained)) where
  pub is_added : Added b c e
  is_added =
      let t : Sound c = record {
        size = rw long s.size;
        room = rw long room;
        zeros = rw zeros s.zeros;
        chained = xs;
        linked = h;
        once = (distinct (next c) 0 xs h).1;
        all = all;
        each = each;
        end = end;
        keys = rw are (keys_adding e (map (entry_at b) s.chained) s.keys);
      } in
      record { sound = t; entries = entries_are c t ∙ are ∙ ap (λ (l : List Entry). adding e l) (sym (entries_are b s)); length = long; head = zeros }

-- a sound store has used as many slots as it has entries
pub used_is : (b : List ℕ) (s : Sound b) → used b ≡ length (entries b)
used_is b s = sym (ap (λ (l : List Entry). length l) (entries_are b s) ∙ length-map s.chained (entry_at b) ∙ s.all)

-- a store has at least one slot, and at most 128
pub long : (n : ℕ) → is_store_length n ≡ true → 512 ≤ n
unfolding is_store_length
long n h = leb-true 512 n (both_true (leb 512 n) (leb n 65536) (both_true (leb 512 n && leb n 65536) (eqb (n % 512) 0) h).0).0

pub few : (n : ℕ) → is_store_length n ≡ true → n ≤ 65536
unfolding is_store_length
few n h = leb-true n 65536 (both_true (leb 512 n) (leb n 65536) (both_true (leb 512 n && leb n 65536) (eqb (n % 512) 0) h).0).1

-- the slots of a sound store, its last among them, are numbered up to used
module _ (b : List ℕ) (s : Sound b) where
  pub within : All (λ (n : ℕ). n ≤ used b) s.chained
  within = all_map (Slot b) (λ (n : ℕ). n ≤ used b) s.chained (λ n k. k.inside) s.each

  pub last_within : last b ≤ used b
  last_within = subst (λ (n : ℕ). n ≤ used b) s.end (all_end (λ (n : ℕ). n ≤ used b) 0 s.chained (omega arith) within)
