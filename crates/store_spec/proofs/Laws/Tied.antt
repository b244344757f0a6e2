-- A slot written whole and tied behind the last: the others are chained as before, and hold what they held.
-- Assumes nothing.
use Rattle.std.specs.Prelude.{ℕ, ◌+◌, ◌*◌, ◌≤◌, ◌<◌, ◌≡◌, ◌≢◌, true, length}
use native.Mathlib.Omega.{arith}
use Rattle.std.proofs.Math.Path.{sym, ap}
use Rattle.std.proofs.Common.{◌∙◌}
use mathlib.Core.List.{List, [], ◌∷◌, ◌++◌}
use Rattle.std.proofs.Math.ListN.{drop}
use Rattle.records.specs.Fields.{put16, length_put16, u16_put_same, u16_put_other}
use Rattle.records.specs.Records.{record_at, length_put_record}
use Rattle.records.specs.Chain.{All, Linked, end_of, all_end, append}
use Rattle.slots_spec.specs.Slot.{Entry, Fits, slot, entry_of, is_slot}
use Rattle.slots_spec.proofs.Slot.{slot_is_slot, slot_entry, length_slot}
use Rattle.store_spec.specs.Store.{next, last, used, entry_at}
use Rattle.store_spec.specs.Adding.{tied}
use Rattle.store_spec.proofs.Laws.Bytes.{Kept, kept_same, kept_kept, next_same, next_other, next_used, next_record, next_kept, next_zeros, field_next, field_record, field_zeros, wrote, wrote_here, wrote_other, wrote_next, wrote_zero, wrote_field}

-- slot n tied behind the last
module _ (b : List ℕ) (n : ℕ) (e : Entry) (xs : List ℕ) (h : Linked (next b) 0 xs) (end : end_of 0 xs ≡ last b) (real : n ≢ 0) (new : All (λ (x : ℕ). x ≢ n) xs)
    (f : Fits e) (fits : 512 * n + 512 ≤ length b) (fits_last : 512 * last b + 512 ≤ length b) (small : n < 65536) where
  abbrev one : List ℕ
  one = wrote b n e f fits

  abbrev two : List ℕ
  two = put16 one (512 * last b) n

  length_one : length one ≡ length b
  length_one = length_put_record 512 b n (slot 0 e) fits (length_slot 0 e f)

  length_two : length two ≡ length b
  length_two = length_put16 one (512 * last b) n ∙ length_one

  apart : n ≢ last b
  apart z = all_end (λ (x : ℕ). x ≢ n) 0 xs (λ i. real (sym i)) new (end ∙ sym z)

  pub tied_linked : Linked (next (tied b n e)) 0 (xs ++ (n ∷ []))
  unfolding tied
  tied_linked =
      let g = field_next two 2 n (omega arith, omega arith) in
      let l = length_one in
      append (next b) (next (put16 two 2 n)) 0 n xs h real (λ z. real (sym z)) new
      (rw end (g (last b) ∙ next_same one (last b) n (omega arith) small))
      (g n ∙ next_other one (last b) n n apart ∙ wrote_zero b n e f fits)
      (λ q ne nn. g q ∙ next_other one (last b) n q (λ z. ne (z ∙ sym end)) ∙ wrote_next b n e f fits q nn)

  pub tied_last : last (tied b n e) ≡ n
  unfolding tied
  tied_last = let l = length_two in u16_put_same two 2 n (omega arith) small

  pub tied_used : used (tied b n e) ≡ used b
  unfolding tied
  tied_used =
      u16_put_other two 2 4 n (λ e. absurd (omega arith)) (λ e. absurd (omega arith)) (λ e. absurd (omega arith))
      ∙ next_used one (last b) n ∙ wrote_field b n e f fits real 4 (omega arith)

  pub tied_length : length (tied b n e) ≡ length b
  unfolding tied
  tied_length = length_put16 two 2 n ∙ length_two

  later : (m : ℕ) → m ≢ 0 → Kept one (put16 two 2 n) m
  later m ne = kept_kept one two (put16 two 2 n) m (next_kept one (last b) n m) (kept_same two (put16 two 2 n) m (field_record two 2 n (omega arith, omega arith) m ne))

  pub tied_kept : (m : ℕ) → m ≢ 0 → m ≢ n → Kept b (tied b n e) m
  unfolding tied
  tied_kept m ne nn = kept_kept b one (put16 two 2 n) m (kept_same b one m (wrote_other b n e f fits m nn)) (later m ne)

  -- a slot that is neither the new one nor the last keeps its bytes
  pub tied_other : (m : ℕ) → m ≢ 0 → m ≢ n → m ≢ last b → record_at 512 (tied b n e) m ≡ record_at 512 b m
  unfolding tied
  tied_other m ne nn nl = field_record two 2 n (omega arith, omega arith) m ne ∙ next_record one (last b) n m nl ∙ wrote_other b n e f fits m nn

  pub tied_entry : entry_at (tied b n e) n ≡ e
  unfolding tied entry_at
  tied_entry = (later n real).entry ∙ ap entry_of (wrote_here b n e f fits) ∙ slot_entry 0 e f

  pub tied_sound : is_slot (record_at 512 (tied b n e) n) ≡ true
  unfolding tied
  tied_sound = (later n real).sound (rw (wrote_here b n e f fits) (slot_is_slot 0 e f))

  pub tied_zeros : drop 6 (record_at 512 (tied b n e) 0) ≡ drop 6 (record_at 512 b 0)
  unfolding tied
  tied_zeros =
      field_zeros two 2 n (omega arith, omega arith) ∙ next_zeros one (last b) n
      ∙ ap (λ (r : List ℕ). drop 6 r) (wrote_other b n e f fits 0 (λ z. real (sym z)))
