-- Theorems about `specs/SoundStore.antt`: 01, Store and sheet: a sound store's length, zero bytes and keys in the paper's words, each with the test that decides it, in both directions; and that its slots are sound ones.
-- Assumes nothing.
use Prim.Native.Nat.{ℕ, zero, suc, ◌%◌, ◌/◌, ◌<◌}
use Rattle.std.proofs.Common.{arith, sym, ap, ◌∙◌, drop-drop, take-take, eqb-true, eq-eqb, leb-true, le-leb}
use Rattle.std.specs.Prelude.{◌≡◌, true, false, not, ◌&&◌, eqb, leb, length, get_or, take, drop}
use Rattle.std.proofs.Math.Path.{refl}
use mathlib.Core.List.{List, [], ◌∷◌, map}
use Rattle.std.proofs.lemmas.Bool.{not-true}
use Rattle.texts.specs.Choice.{both_true, is_false, never}
use Rattle.texts.specs.Lists.{every, some}
use Rattle.texts.specs.Text.{is}
use Rattle.records.specs.Records.{record_at}
use Rattle.records.specs.Chain.{All, all_map}
use Rattle.records.specs.Between.{drop_take, part_zero, zero_part}
use Rattle.slots_spec.specs.Slot.{Entry}
use Rattle.slots_spec.specs.SoundSlot.{SoundSlot}
use Rattle.slots_spec.proofs.Decided.{slot_sound}
use Rattle.store_spec.specs.Store.{is_store_length, same_key, keys_differ, is_rest}
use Rattle.store_spec.specs.Sound.{Slot, Sound}
use Rattle.store_spec.proofs.Laws.Keys.{either_false, key_true, key_from}
use Rattle.store_spec.specs.SoundStore.{StoreLength, ZeroHead, KeysDiffer}

pub length_sound : (n : ℕ) → is_store_length n ≡ true → StoreLength n
unfolding is_store_length
length_sound n h =
    let a = both_true (leb 512 n && leb n 65536) (eqb (n % 512) 0) h in
    let b = both_true (leb 512 n) (leb n 65536) a.0 in
    let z = eqb-true (n % 512) 0 a.1 in
    record { slots = n / 512; whole = omega arith; from = leb-true 512 n b.0; to = leb-true n 65536 b.1 }

pub sound_length : (n : ℕ) → StoreLength n → is_store_length n ≡ true
unfolding is_store_length
sound_length n s =
    let w = s.whole in
    rw (le-leb 512 n s.from, le-leb n 65536 s.to, eq-eqb (n % 512) 0 (omega arith))

-- as the test has these bytes, and as they stand in the store
before_count : (b : List ℕ) → take 2 (drop 6 (record_at 512 b 0)) ≡ drop 6 (take 8 b)
unfolding record_at
before_count b = sym (drop_take 6 2 (take 512 b)) ∙ ap (λ (s : List ℕ). drop 6 s) (take-take 8 512 b (omega arith))

behind_count : (b : List ℕ) → drop 10 (drop 6 (record_at 512 b 0)) ≡ drop 16 (take 512 b)
unfolding record_at
behind_count b = drop-drop 10 6 (take 512 b)

pub zeros_sound : (b : List ℕ) → is_rest (drop 6 (record_at 512 b 0)) ≡ true → ZeroHead b
unfolding is_rest
zeros_sound b h =
    let r = drop 6 (record_at 512 b 0) in
    let z = both_true (every (is 0) (take 2 r)) (every (is 0) (drop 10 r)) h in
    record { before = part_zero b 6 8 (rw before_count at z).0; behind = part_zero b 16 512 (rw behind_count at z).1 }

pub sound_zeros : (b : List ℕ) → ZeroHead b → is_rest (drop 6 (record_at 512 b 0)) ≡ true
unfolding is_rest
sound_zeros b z = rw (before_count b, behind_count b, zero_part b 6 8 z.before, zero_part b 16 512 z.behind)

module _ (g : ℕ → Entry) where
  -- an entry's key against those of a chain
  other_told : (e : Entry) (xs : List ℕ) → some (same_key e) (map g xs) ≡ false → (j : ℕ) → j < length xs → same_key e (g (get_or xs j 0)) ≡ false
  unfolding some
  other_told e [] h j l = absurd (omega arith)
  other_told e (x ∷ xs) h zero l = (either_false (same_key e (g x)) (some (same_key e) (map g xs)) h).0
  other_told e (x ∷ xs) h (suc j) l = other_told e xs (either_false (same_key e (g x)) (some (same_key e) (map g xs)) h).1 j (omega arith)

  told_other : (e : Entry) (xs : List ℕ) → ((j : ℕ) → j < length xs → same_key e (g (get_or xs j 0)) ≡ false) → some (same_key e) (map g xs) ≡ false
  unfolding some
  told_other e [] h = refl
  told_other e (x ∷ xs) h = let ih = told_other e xs (λ j l. h (suc j) (omega arith)) in rw (h 0 (omega arith), ih)

  apart : (x y : ℕ) → same_key (g x) (g y) ≡ false → (g x).word ≡ (g y).word → (g x).tag ≡ (g y).tag → (g x).exact ≡ (g y).exact → ⊥
  apart x y h w t e = never (same_key (g x) (g y)) (key_from (g x) (g y) (sym w) (sym t) (sym e)) h

  pub keys_sound : (xs : List ℕ) → keys_differ (map g xs) ≡ true → KeysDiffer g xs
  unfolding keys_differ
  keys_sound [] h i j ne hi hj w t e = absurd (omega arith)
  keys_sound (x ∷ xs) h zero zero ne hi hj w t e = ne refl
  keys_sound (x ∷ xs) h zero (suc j) ne hi hj w t e =
      let b = both_true (not (some (same_key (g x)) (map g xs))) (keys_differ (map g xs)) h in
      apart x (get_or xs j 0) (other_told (g x) xs (not-true (some (same_key (g x)) (map g xs)) b.0) j (omega arith)) w t e
  keys_sound (x ∷ xs) h (suc i) zero ne hi hj w t e =
      let b = both_true (not (some (same_key (g x)) (map g xs))) (keys_differ (map g xs)) h in
      apart x (get_or xs i 0) (other_told (g x) xs (not-true (some (same_key (g x)) (map g xs)) b.0) i (omega arith)) (sym w) (sym t) (sym e)
  keys_sound (x ∷ xs) h (suc i) (suc j) ne hi hj w t e =
      let b = both_true (not (some (same_key (g x)) (map g xs))) (keys_differ (map g xs)) h in
      keys_sound xs b.1 i j (λ z. ne (omega arith)) (omega arith) (omega arith) w t e

  pub sound_keys : (xs : List ℕ) → KeysDiffer g xs → keys_differ (map g xs) ≡ true
  unfolding keys_differ
  sound_keys [] d = refl
  sound_keys (x ∷ xs) d =
      let ih = sound_keys xs (λ i j ne hi hj w t x. d (suc i) (suc j) (λ e. ne (omega arith)) (omega arith) (omega arith) w t x) in
      let n = told_other (g x) xs (λ j l. is_false (same_key (g x) (g (get_or xs j 0))) (λ e.
      let k = key_true (g x) (g (get_or xs j 0)) e in
      d 0 (suc j) (λ z. absurd (omega arith)) (omega arith) (omega arith) (sym k.0) (sym k.1) (sym k.2))) in
      rw (n, ih)

-- each slot in the chain of a sound store is a sound slot
pub slots_sound : (b : List ℕ) (s : Sound b) → All (λ (n : ℕ). SoundSlot (record_at 512 b n)) s.chained
slots_sound b s = all_map (Slot b) (λ (n : ℕ). SoundSlot (record_at 512 b n)) s.chained (λ n p. slot_sound (record_at 512 b n) p.sound) s.each
