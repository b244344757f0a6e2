-- The count of a store says nothing of its chain, slots and entries: with another one it is as sound, and holds the same.
-- Assumes nothing.
use Rattle.std.specs.Prelude.{ℕ, ◌+◌, ◌*◌, ◌<◌, ◌≡◌, ◌≢◌, List, map, length, drop}
use Rattle.std.proofs.Common.{arith, ap, ◌∙◌, inl, inr}
use Rattle.std.proofs.Math.Decide.{ℕ_discrete}
use Rattle.std.proofs.Math.Path.{sym}
use Rattle.records.specs.Fields.{u16_at, u32_at, u64_at, put64, u16_drop}
use Rattle.records.specs.Records.{record_at, same_record, u16_of}
use Rattle.records.specs.Chain.{All, Linked, all_map, frame}
use Rattle.records.specs.Laws.Eight.{length_put64, byte_put64, u16_put64, u64_put_same}
use Rattle.store_spec.specs.Store.{next, last, used, count, with_count, entry_at, entries}
use Rattle.store_spec.specs.Sound.{Slot, Sound}
use Rattle.store_spec.proofs.Sound.{entries_are}
use Rattle.store_spec.proofs.SoundStore.{zeros_sound, sound_zeros}
use Rattle.store_spec.proofs.Laws.Bytes.{kept_same}
use Rattle.store_spec.proofs.Result.{map_kept, all_of, long}

module _ (b : List ℕ) (n : ℕ) where
  pub counted_length : length (with_count b n) ≡ length b
  counted_length = length_put64 b 8 n

  with_next : (q : ℕ) → next (with_count b n) q ≡ next b q
  unfolding next
  with_next q = go (ℕ_discrete q 0)
    where
      go : Dec (q ≡ 0) → u16_at (put64 b 8 n) (512 * q) ≡ u16_at b (512 * q)
      go (yes e) = u16_put64 b 8 n (512 * q) (inl (omega arith))
      go (no ne) = u16_put64 b 8 n (512 * q) (inr (omega arith))

  with_last : last (with_count b n) ≡ last b
  with_last = u16_put64 b 8 n 2 (inl (omega arith))

  with_used : used (with_count b n) ≡ used b
  with_used = u16_put64 b 8 n 4 (inl (omega arith))

  with_slot : (m : ℕ) → m ≢ 0 → record_at 512 (with_count b n) m ≡ record_at 512 b m
  with_slot m ne = same_record 512 b (with_count b n) m counted_length (λ o h. byte_put64 b 8 n (512 * m + o) (inr (omega arith)))

  module _ (s : Sound b) where
    linked : Linked (next (with_count b n)) 0 s.chained
    linked =
        frame (next b) (next (with_count b n)) 0 s.chained (with_next 0)
        (all_of (λ (x : ℕ). next (with_count b n) x ≡ next b x) s.chained with_next) s.linked

    each : All (Slot (with_count b n)) s.chained
    each =
        all_map (Slot b) (Slot (with_count b n)) s.chained
        (λ m k. record { real = k.real; inside = rw with_used k.inside; sound = rw (with_slot m k.real) k.sound }) s.each

    same_entries : map (entry_at (with_count b n)) s.chained ≡ map (entry_at b) s.chained
    same_entries =
        map_kept b (with_count b n) s.chained
        (all_map (Slot b) _ s.chained (λ m k. kept_same b (with_count b n) m (with_slot m k.real)) s.each)

    pub counted : Sound (with_count b n)
    counted =
        let l = counted_length in
        let z = zeros_sound b s.zeros in
        record {
          size = rw l s.size;
          room = rw (with_used, l) s.room;
          zeros = sound_zeros (with_count b n) (record {
            before = λ i lo hi. byte_put64 b 8 n i (inl (omega arith)) ∙ z.before i lo hi;
            behind = λ i lo hi. byte_put64 b 8 n i (inr (omega arith)) ∙ z.behind i lo hi;
          });
          chained = s.chained;
          linked = linked;
          once = s.once;
          all = s.all ∙ sym with_used;
          each = each;
          end = s.end ∙ sym with_last;
          keys = rw same_entries s.keys;
        }

    pub counted_entries : entries (with_count b n) ≡ entries b
    unfolding counted
    counted_entries = entries_are (with_count b n) counted ∙ same_entries ∙ sym (entries_are b s)

    -- the count is read back
    pub counted_count : n < 18446744073709551616 → count (with_count b n) ≡ n
    counted_count h = let l = long (length b) s.size in u64_put_same b 8 n (omega arith) h

-- the count, read behind "used" in slot 0: what keeps those bytes keeps it
pub count_of : (b : List ℕ) → count b ≡ u64_at (drop 6 (record_at 512 b 0)) 2
unfolding u64_at u32_at
count_of b =
    let r = record_at 512 b 0 in
    rw (
      u16_drop 6 r 2 ∙ u16_of 512 b 0 8 (omega arith),
      u16_drop 6 r 4 ∙ u16_of 512 b 0 10 (omega arith),
      u16_drop 6 r 6 ∙ u16_of 512 b 0 12 (omega arith),
      u16_drop 6 r 8 ∙ u16_of 512 b 0 14 (omega arith),
    )

pub count_same : (b c : List ℕ) → drop 6 (record_at 512 c 0) ≡ drop 6 (record_at 512 b 0) → count c ≡ count b
count_same b c e = count_of c ∙ ap (λ (q : List ℕ). u64_at q 2) e ∙ sym (count_of b)
