-- What each write into a store changes: a next field, a field of slot 0, a slot written whole. Links and slots elsewhere are as they were.
-- Assumes nothing.
use Rattle.std.specs.Prelude.{ℕ, ◌+◌, ◌*◌, ◌%◌, ◌/◌, ◌≤◌, ◌<◌, ◌≡◌, ◌≢◌, length, get_or, drop, set}
use Rattle.std.proofs.Common.{zero-add, ◌∙◌, get_or-set_other, drop-set-lt}
use native.Mathlib.Omega.{arith}
use Rattle.std.proofs.Math.Decide.{ℕ_discrete}
use Rattle.std.proofs.Math.Path.{sym, ap}
use Rattle.std.proofs.Math.Bool.{true}
use mathlib.Core.List.{List}
use Rattle.records.specs.Fields.{u16_at, put16, u16_put_same, u16_put_other}
use Rattle.records.specs.Records.{record_at, put_record, u16_of, put_record_same, put_record_other, put16_same, put16_other}
use Rattle.slots_spec.specs.Slot.{Entry, Fits, slot, entry_of, is_slot}
use Rattle.slots_spec.proofs.Slot.{slot_put, slot_next, slot_of, slot_is_slot, length_slot}
use Rattle.store_spec.specs.Store.{next, last, used, entry_at}

-- a slot is sound as it was, and holds the entry it held
pub record Kept (b c : List ℕ) (n : ℕ) : Type 0 where
  pub sound : is_slot (record_at 512 b n) ≡ true → is_slot (record_at 512 c n) ≡ true
  pub entry : entry_at c n ≡ entry_at b n

pub kept_same : (b c : List ℕ) (n : ℕ) → record_at 512 c n ≡ record_at 512 b n → Kept b c n
unfolding entry_at
kept_same b c n e = record { sound = λ h. rw e h; entry = rw e }

pub kept_kept : (b c d : List ℕ) (n : ℕ) → Kept b c n → Kept c d n → Kept b d n
kept_kept b c d n k l = record { sound = λ h. l.sound (k.sound h); entry = l.entry ∙ k.entry }

-- the next field of a slot says nothing of its entry
entry_put : (r : List ℕ) (v : ℕ) → entry_of (put16 r 0 v) ≡ entry_of r
unfolding entry_of put16
entry_put r v =
    let s = set r 0 (v % 256) in
    let g : (k : ℕ) → 1 < k → get_or (set s 1 (v / 256)) k 0 ≡ get_or r k 0 =
    λ k h. get_or-set_other s 1 k (v / 256) 0 (λ e. absurd (omega arith)) ∙ get_or-set_other r 0 k (v % 256) 0 (λ e. absurd (omega arith)) in
    let d : (k : ℕ) → 1 < k → drop k (set s 1 (v / 256)) ≡ drop k r =
    λ k h. drop-set-lt k s 1 (v / 256) h ∙ drop-set-lt k r 0 (v % 256) (omega arith) in
    rw (g 2 (omega arith), g 3 (omega arith), g 51 (omega arith), g 52 (omega arith), d 4 (omega arith), d 64 (omega arith))

-- a field of slot 0 put into its first six bytes
head_zeros : (b : List ℕ) (o v : ℕ) → o ≤ 4 → drop 6 (record_at 512 (put16 b o v) 0) ≡ drop 6 (record_at 512 b 0)
unfolding put16
head_zeros b o v h =
    let r = record_at 512 b 0 in
    let s = set r o (v % 256) in
    ap (λ (k : ℕ). drop 6 (record_at 512 (put16 b k v) 0)) (sym (zero-add o))
    ∙ ap (λ (x : List ℕ). drop 6 x) (put16_same 512 b 0 o v (omega arith)) ∙ drop-set-lt 6 s (o + 1) (v / 256) (omega arith) ∙ drop-set-lt 6 r o (v % 256) (omega arith)

-- a new next field for slot p
module _ (b : List ℕ) (p v : ℕ) where
  pub next_same : 512 * p + 1 < length b → v < 65536 → next (put16 b (512 * p) v) p ≡ v
  unfolding next
  next_same h l = u16_put_same b (512 * p) v h l

  pub next_other : (q : ℕ) → q ≢ p → next (put16 b (512 * p) v) q ≡ next b q
  unfolding next
  next_other q ne = u16_put_other b (512 * p) (512 * q) v (λ e. ne (omega arith)) (λ e. absurd (omega arith)) (λ e. absurd (omega arith))

  pub next_last : last (put16 b (512 * p) v) ≡ last b
  next_last = u16_put_other b (512 * p) 2 v (λ e. absurd (omega arith)) (λ e. absurd (omega arith)) (λ e. absurd (omega arith))

  pub next_used : used (put16 b (512 * p) v) ≡ used b
  next_used = u16_put_other b (512 * p) 4 v (λ e. absurd (omega arith)) (λ e. absurd (omega arith)) (λ e. absurd (omega arith))

  place : 512 * p + 0 ≡ 512 * p
  place = omega arith

  here : record_at 512 (put16 b (512 * p) v) p ≡ put16 (record_at 512 b p) 0 v
  here = ap (λ (k : ℕ). record_at 512 (put16 b k v) p) (sym place) ∙ put16_same 512 b p 0 v (omega arith)

  pub next_record : (n : ℕ) → n ≢ p → record_at 512 (put16 b (512 * p) v) n ≡ record_at 512 b n
  next_record n ne = ap (λ (k : ℕ). record_at 512 (put16 b k v) n) (sym place) ∙ put16_other 512 b p 0 v (omega arith) n ne

  pub next_kept : (n : ℕ) → Kept b (put16 b (512 * p) v) n
  unfolding entry_at
  next_kept n = go (ℕ_discrete n p)
    where
      again : is_slot (record_at 512 b p) ≡ true → is_slot (put16 (record_at 512 b p) 0 v) ≡ true
      again h =
          let s = slot_of (record_at 512 b p) h in
          let r = record_at 512 b p in
          let e : put16 r 0 v ≡ slot v (entry_of r) = ap (λ (x : List ℕ). put16 x 0 v) s.1 ∙ slot_put (u16_at r 0) v (entry_of r) in
          rw e (slot_is_slot v (entry_of r) s.0)

      go : Dec (n ≡ p) → Kept b (put16 b (512 * p) v) n
      go (no ne) = kept_same b (put16 b (512 * p) v) n (next_record n ne)
      go (yes e) = rw e (record { sound = λ h. rw here (again h); entry = ap entry_of here ∙ entry_put (record_at 512 b p) v })

  pub next_zeros : drop 6 (record_at 512 (put16 b (512 * p) v) 0) ≡ drop 6 (record_at 512 b 0)
  next_zeros = go (ℕ_discrete 0 p)
    where
      go : Dec (0 ≡ p) → drop 6 (record_at 512 (put16 b (512 * p) v) 0) ≡ drop 6 (record_at 512 b 0)
      go (no ne) = rw (next_record 0 ne)
      go (yes e) =
          let z : 512 * p ≡ 0 = omega arith in
          ap (λ (k : ℕ). drop 6 (record_at 512 (put16 b k v) 0)) z ∙ head_zeros b 0 v (omega arith)

-- a new field of slot 0, "last" at 2 or "used" at 4
module _ (b : List ℕ) (o v : ℕ) (field : (2 ≤ o) × (o ≤ 4)) where
  pub field_next : (q : ℕ) → next (put16 b o v) q ≡ next b q
  unfolding next
  field_next q = u16_put_other b o (512 * q) v (λ e. absurd (omega arith)) (λ e. absurd (omega arith)) (λ e. absurd (omega arith))

  pub field_record : (n : ℕ) → n ≢ 0 → record_at 512 (put16 b o v) n ≡ record_at 512 b n
  field_record n ne = ap (λ (k : ℕ). record_at 512 (put16 b k v) n) (sym (zero-add o)) ∙ put16_other 512 b 0 o v (omega arith) n ne

  pub field_zeros : drop 6 (record_at 512 (put16 b o v) 0) ≡ drop 6 (record_at 512 b 0)
  field_zeros = head_zeros b o v (omega arith)

-- slot n written whole
module _ (b : List ℕ) (n : ℕ) (e : Entry) (f : Fits e) (fits : 512 * n + 512 ≤ length b) where
  abbrev pub wrote : List ℕ
  wrote = put_record 512 b n (slot 0 e)

  pub wrote_here : record_at 512 wrote n ≡ slot 0 e
  wrote_here = put_record_same 512 b n (slot 0 e) fits (length_slot 0 e f)

  pub wrote_other : (m : ℕ) → m ≢ n → record_at 512 wrote m ≡ record_at 512 b m
  wrote_other m ne = put_record_other 512 b n (slot 0 e) fits (length_slot 0 e f) m ne

  pub wrote_next : (q : ℕ) → q ≢ n → next wrote q ≡ next b q
  unfolding next
  wrote_next q ne =
      let z : 512 * q + 0 ≡ 512 * q = omega arith in
      ap (λ (k : ℕ). u16_at wrote k) (sym z) ∙ sym (u16_of 512 wrote q 0 (omega arith)) ∙ ap (λ (r : List ℕ). u16_at r 0) (wrote_other q ne)
      ∙ u16_of 512 b q 0 (omega arith) ∙ ap (λ (k : ℕ). u16_at b k) z

  pub wrote_zero : next wrote n ≡ 0
  unfolding next
  wrote_zero =
      let z : 512 * n + 0 ≡ 512 * n = omega arith in
      ap (λ (k : ℕ). u16_at wrote k) (sym z) ∙ sym (u16_of 512 wrote n 0 (omega arith)) ∙ ap (λ (r : List ℕ). u16_at r 0) wrote_here ∙ slot_next 0 e

  pub wrote_field : n ≢ 0 → (o : ℕ) → o + 1 < 512 → u16_at wrote o ≡ u16_at b o
  wrote_field ne o h =
      ap (λ (k : ℕ). u16_at wrote k) (sym (zero-add o)) ∙ sym (u16_of 512 wrote 0 o h)
      ∙ ap (λ (r : List ℕ). u16_at r o) (wrote_other 0 (λ z. ne (sym z)))
      ∙ u16_of 512 b 0 o h ∙ ap (λ (k : ℕ). u16_at b k) (zero-add o)
