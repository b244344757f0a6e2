-- `is_slot` decides what a sound slot is, in both directions.
-- Assumes nothing.
use Rattle.std.specs.Prelude.{ℕ, ◌+◌, ◌-◌, ◌*◌, ◌%◌, ◌/◌, ◌≤◌, ◌<◌, ◌≡◌, ◌&&◌, List, [], eqb, ltb, drop}
use native.Mathlib.Omega.{arith}
use Rattle.std.proofs.Math.Path.{sym, ap}
use Rattle.std.proofs.Common.{◌∙◌}
use Rattle.std.proofs.Math.Bool.{true}
use Rattle.std.proofs.Math.Dec.{leb}
use Rattle.std.proofs.Math.ListN.{length, get_or, take, length-take, length-drop}
use Rattle.std.proofs.Math.Seq.{length-take-le, get_or-take, get_or-drop}
use borrow.Author.Tests.{eqb-true, eqb-false, eq-eqb, leb-true, le-leb, ltb-true, ltb-false, lt-ltb}
use Rattle.texts.specs.Choice.{both_true, cases}
use Rattle.texts.specs.Lists.{every, every_at, every_from}
use Rattle.texts.specs.Text.{folded, is, low, ascii, is_word}
use Rattle.records.specs.Fields.{u16_at}
use Rattle.records.specs.Records.{record_at, records, record_of_lem, length_records, byte_of}
use Rattle.records.specs.Between.{Zero, Low, part_at, part_every, rest_zero, zero_rest, part_zero, zero_part, text_low, low_text}
use Rattle.slots_spec.specs.Slot.{entry_of, is_small, is_folded, slot, is_slot}
use Rattle.slots_spec.proofs.Slot.{slot_of, length_slot}
use Rattle.slots_spec.specs.SoundSlot.{Folded, SoundCell, SoundSlot}
use Rattle.slots_spec.specs.Laws.Parts.{is_stored, is_key, is_blank, used_cells, is_tidy}
use Rattle.slots_spec.proofs.Laws.Parts.{slot_parts}

-- a slot that passes the test has 512 bytes, and its first is a byte
test_size : (r : List ℕ) → is_slot r ≡ true → length r ≡ 512
test_size r h = let s = slot_of r h in ap (λ (x : List ℕ). length x) s.1 ∙ length_slot (u16_at r 0) (entry_of r) s.0

test_byte : (r : List ℕ) → is_slot r ≡ true → get_or r 0 0 < 256
unfolding slot
test_byte r h =
    let e : get_or r 0 0 ≡ u16_at r 0 % 256 = ap (λ (x : List ℕ). get_or x 0 0) (slot_of r h).1 in
    omega arith

module _ (r : List ℕ) (size : length r ≡ 512) where
  -- the test of the word, both ways: folded where byte 52 is not 1
  stored_told : get_or r 3 0 ≤ 47 → is_stored r ≡ true → get_or r 52 0 ≡ 0 → Folded r 4 (4 + get_or r 3 0)
  unfolding is_stored is_folded is_small
  stored_told short h z i lo hi =
      let f : is_folded (take (get_or r 3 0) (drop 4 r)) ≡ true = rw z at h in
      eqb-true (folded (get_or r i 0)) (get_or r i 0) (part_at is_small r 4 (get_or r 3 0) f i lo hi (omega arith))

  told_folded : Folded r 4 (4 + get_or r 3 0) → is_folded (take (get_or r 3 0) (drop 4 r)) ≡ true
  unfolding is_folded is_small
  told_folded f = part_every is_small r 4 (get_or r 3 0) (λ i lo hi m. eq-eqb (folded (get_or r i 0)) (get_or r i 0) (f i lo hi))

  told_stored : (s : SoundSlot r) → is_stored r ≡ true
  unfolding is_stored
  told_stored s =
      let le = s.zero_or_one in
      cases (eqb (get_or r 52 0) 1)
      (λ e. rw e)
      (λ e. let n = eqb-false (get_or r 52 0) 1 e in rw (e, told_folded (s.folded_word (omega arith))))

  -- the test of the key, both ways
  key_told : is_key r ≡ true
      → (get_or r 2 0 < 128) × (get_or r 3 0 ≤ 47) × Low r 4 (4 + get_or r 3 0) × (get_or r 52 0 ≡ 0 → Folded r 4 (4 + get_or r 3 0)) × (get_or r 51 0 ≤ 24)
  unfolding is_key is_word low
  key_told h =
      let n = get_or r 3 0 in
      let w = take n (drop 4 r) in
      let a = both_true (low (get_or r 2 0) && is_word w && is_stored r) (leb (get_or r 51 0) 24) h in
      let b = both_true (low (get_or r 2 0) && is_word w) (is_stored r) a.0 in
      let c = both_true (low (get_or r 2 0)) (is_word w) b.0 in
      let d = both_true (leb (length w) 47) (ascii w) c.1 in
      let s = leb-true (length w) 47 d.0 in
      let t = length-take n (drop 4 r) in
      let u = length-drop 4 r in
      let short : n ≤ 47 = omega arith in (
        ltb-true (get_or r 2 0) 128 c.0,
        short,
        text_low r 4 n (omega arith) d.1,
        stored_told short b.1,
        leb-true (get_or r 51 0) 24 a.1,
      )

  told_key : SoundSlot r → is_key r ≡ true
  unfolding is_key is_word
  told_key s =
      let n = get_or r 3 0 in
      let w = take n (drop 4 r) in
      let short = s.short_word in
      let few = s.few_phones in
      let l : length w ≡ n = length-take-le n (drop 4 r) (rw length-drop (omega arith)) in
      let t : low (get_or r 2 0) ≡ true = unfold low in lt-ltb (get_or r 2 0) 128 s.low_tag in
      rw (t, l, le-leb n 47 short, low_text r 4 n (omega arith) s.low_word, told_stored s, le-leb (get_or r 51 0) 24 few)

  -- the test of the zero bytes, both ways
  blank_told : is_blank r ≡ true → Zero r (4 + get_or r 3 0) 51 × (get_or r 52 0 ≤ 1) × Zero r 53 64 × Zero r (64 + 16 * get_or r 51 0) 512
  unfolding is_blank
  blank_told h =
      let p = every (is 0) (drop (4 + get_or r 3 0) (take 51 r)) in
      let x = leb (get_or r 52 0) 1 in
      let q = every (is 0) (drop 53 (take 64 r)) in
      let a = both_true (p && x && q) (every (is 0) (drop (64 + 16 * get_or r 51 0) r)) h in
      let b = both_true (p && x) q a.0 in
      let c = both_true p x b.0 in (
        part_zero r (4 + get_or r 3 0) 51 c.0,
        leb-true (get_or r 52 0) 1 c.1,
        part_zero r 53 64 b.1,
        (λ i lo hi. rest_zero r (64 + 16 * get_or r 51 0) a.1 i lo),
      )

  told_blank : SoundSlot r → is_blank r ≡ true
  unfolding is_blank
  told_blank s =
      rw (
        zero_part r (4 + get_or r 3 0) 51 s.past_word,
        le-leb (get_or r 52 0) 1 s.zero_or_one,
        zero_part r 53 64 s.unnamed,
        zero_rest r (64 + 16 * get_or r 51 0) (λ i lo l. s.past_phones i lo (omega arith)),
      )

  -- the cells that are used
  module _ (few : get_or r 51 0 ≤ 24) where
    used_size : length (used_cells r) ≡ 16 * get_or r 51 0
    unfolding used_cells
    used_size = length-take-le (16 * get_or r 51 0) (drop 64 r) (rw length-drop (omega arith))

    cell_byte : (k o : ℕ) → k < get_or r 51 0 → o < 16 → get_or (record_at 16 (used_cells r) k) o 0 ≡ get_or r (64 + 16 * k + o) 0
    unfolding used_cells
    cell_byte k o hk ho =
        let e : 64 + (16 * k + o) ≡ 64 + 16 * k + o = omega arith in
        byte_of 16 (used_cells r) k o ho ∙ get_or-take (16 * get_or r 51 0) (drop 64 r) (16 * k + o) 0 (omega arith)
        ∙ get_or-drop 64 r (16 * k + o) 0 ∙ ap (λ (j : ℕ). get_or r j 0) e

    cell_length : (k : ℕ) → k < get_or r 51 0 → get_or (record_at 16 (used_cells r) k) 0 0 ≡ get_or r (64 + 16 * k) 0
    cell_length k h = let e : 64 + 16 * k + 0 ≡ 64 + 16 * k = omega arith in cell_byte k 0 h (omega arith) ∙ ap (λ (j : ℕ). get_or r j 0) e

    cell_size : (k : ℕ) → k < get_or r 51 0 → length (record_at 16 (used_cells r) k) ≡ 16
    unfolding record_at
    cell_size k h = length-take-le 16 (drop (16 * k) (used_cells r)) (rw length-drop (omega (arith, used_size)))

    -- one of them is tidy, both ways
    tidy_told : (k : ℕ) → k < get_or r 51 0 → ascii (used_cells r) ≡ true → is_tidy (record_at 16 (used_cells r) k) ≡ true → SoundCell r (64 + 16 * k)
    unfolding is_tidy used_cells
    tidy_told k h lows t =
        let at = 64 + 16 * k in
        let c = record_at 16 (used_cells r) k in
        let b = both_true (leb (get_or c 0 0) 15) (every (is 0) (drop (1 + get_or c 0 0) c)) t in
        let z = cell_length k h in
        let m = leb-true (get_or c 0 0) 15 b.0 in
        let short : get_or r at 0 ≤ 15 = omega arith in
        record {
          short = short;
          low = λ i lo hi. text_low r 64 (16 * get_or r 51 0) (omega arith) lows i (omega arith) (omega arith);
          past_text = λ i lo hi.
              let e : at + (i - at) ≡ i = omega arith in
              let v = cell_byte k (i - at) h (omega arith) in
              sym (v ∙ ap (λ (j : ℕ). get_or r j 0) e) ∙ rest_zero c (1 + get_or c 0 0) b.1 (i - at) (omega arith);
        }

    told_tidy : (k : ℕ) → k < get_or r 51 0 → SoundCell r (64 + 16 * k) → is_tidy (record_at 16 (used_cells r) k) ≡ true
    unfolding is_tidy
    told_tidy k h s =
        let at = 64 + 16 * k in
        let c = record_at 16 (used_cells r) k in
        let z = cell_length k h in
        let l = cell_size k h in
        let short = s.short in
        rw (
          le-leb (get_or c 0 0) 15 (omega arith),
          zero_rest c (1 + get_or c 0 0) (λ o lo i. cell_byte k o h (omega arith) ∙ s.past_text (at + o) (omega arith) (omega arith)),
        )

    -- all of them, both ways
    cells_told : ascii (used_cells r) ≡ true → every is_tidy (records 16 (used_cells r)) ≡ true → (k : ℕ) → k < get_or r 51 0 → SoundCell r (64 + 16 * k)
    cells_told lows t k h =
        let cs = used_cells r in
        let l = used_size in
        let m = length_records 16 cs in
        let i : k < length cs / 16 = omega arith in
        tidy_told k h lows (rw (record_of_lem 16 k cs i) at (every_at is_tidy (records 16 cs) [] t k (omega arith)))

    told_cells : ((k : ℕ) → k < get_or r 51 0 → SoundCell r (64 + 16 * k)) → every is_tidy (records 16 (used_cells r)) ≡ true
    told_cells s =
        let cs = used_cells r in
        every_from is_tidy (records 16 cs) [] (λ k h.
        let l = used_size in
        let m = length_records 16 cs in
        let i : k < length cs / 16 = omega arith in
        rw (record_of_lem 16 k cs i) (told_tidy k (omega arith) (s k (omega arith))))

    told_low : ((k : ℕ) → k < get_or r 51 0 → SoundCell r (64 + 16 * k)) → ascii (used_cells r) ≡ true
    unfolding used_cells
    told_low s =
        low_text r 64 (16 * get_or r 51 0) (omega arith) (λ i lo hi.
        let k = (i - 64) / 16 in
        let at = 64 + 16 * k in
        let c = s k (omega arith) in
        let short = c.short in
        cases (eqb i at)
        (λ e. let z = eqb-true i at e in rw z (omega arith))
        (λ e.
        let n = eqb-false i at e in
        cases (ltb i (at + 1 + get_or r at 0))
        (λ t. c.low i (omega arith) (ltb-true i (at + 1 + get_or r at 0) t))
        (λ t. let v = c.past_text i (ltb-false i (at + 1 + get_or r at 0) t) (omega arith) in omega arith)))

-- the decision, in both directions
pub slot_sound : (r : List ℕ) → is_slot r ≡ true → SoundSlot r
slot_sound r h =
    let l = test_size r h in
    let cs = used_cells r in
    let p = sym (slot_parts r l (test_byte r h)) ∙ h in
    let a = both_true (is_key r && is_blank r && ascii cs) (every is_tidy (records 16 cs)) p in
    let b = both_true (is_key r && is_blank r) (ascii cs) a.0 in
    let c = both_true (is_key r) (is_blank r) b.0 in
    let k = key_told r l c.0 in
    let z = blank_told r l c.1 in
    record {
      size = l;
      low_tag = k.0;
      short_word = k.1;
      low_word = k.2;
      past_word = z.0;
      few_phones = k.4;
      zero_or_one = z.1;
      folded_word = k.3;
      unnamed = z.2;
      phones = cells_told r l k.4 b.1 a.1;
      past_phones = z.3;
    }

-- back, where the first byte is a byte, as in any lent store
pub sound_slot : (r : List ℕ) → get_or r 0 0 < 256 → SoundSlot r → is_slot r ≡ true
sound_slot r byte s =
    let l = s.size in
    slot_parts r l byte
    ∙ rw (told_key r l s, told_blank r l s, told_low r l s.few_phones s.phones, told_cells r l s.few_phones s.phones)
