-- A store as new store leaves it is sound, has no entries, and its count is 0.
-- Assumes nothing.
use Rattle.std.specs.Prelude.{ℕ, ◌+◌, ◌*◌, ◌≤◌, ◌<◌, ◌≡◌, true, List, [], length, drop}
use Rattle.std.proofs.Common.{zero-add, arith, ap, ◌∙◌}
use Rattle.std.proofs.Math.Path.{refl, sym}
use Rattle.texts.specs.Lists.{every}
use Rattle.texts.specs.Text.{is}
use Rattle.records.specs.Fields.{u16_at, u32_at, u64_at}
use Rattle.records.specs.Records.{record_at, put_record, put_record_same, length_put_record, u16_of}
use Rattle.records.specs.Chain.{end_of}
use Rattle.store_spec.specs.Store.{next, count, entries, is_store_length, keys_differ, is_rest}
use Rattle.new_store.specs.NewStore.{new_head}
use Rattle.store_spec.specs.Sound.{Sound}
use Rattle.store_spec.proofs.Sound.{entries_are}
use Rattle.store_spec.proofs.Result.{long}
use Rattle.store_spec.proofs.Laws.Counts.{count_of}

module _ (b : List ℕ) (size : is_store_length (length b) ≡ true) where
  abbrev pub fresh : List ℕ
  fresh = put_record 512 b 0 new_head

  fits : 512 * 0 + 512 ≤ length b
  fits = let l = long (length b) size in omega arith

  head : record_at 512 fresh 0 ≡ new_head
  unfolding new_head
  head = put_record_same 512 b 0 new_head fits refl

  pub length_fresh : length fresh ≡ length b
  unfolding new_head
  length_fresh = length_put_record 512 b 0 new_head fits refl

  field : (o : ℕ) → o + 1 < 512 → u16_at fresh o ≡ u16_at new_head o
  field o h = ap (λ (k : ℕ). u16_at fresh k) (sym (zero-add o)) ∙ sym (u16_of 512 fresh 0 o h) ∙ ap (λ (r : List ℕ). u16_at r o) head

  zeros : is_rest (drop 6 new_head) ≡ true
  unfolding new_head is_rest every is
  zeros = refl

  first_zero : u16_at new_head 0 ≡ 0
  unfolding new_head u16_at
  first_zero = refl

  last_zero : u16_at new_head 2 ≡ 0
  unfolding new_head u16_at
  last_zero = refl

  used_zero : u16_at new_head 4 ≡ 0
  unfolding new_head u16_at
  used_zero = refl

  pub fresh_sound : Sound fresh
  unfolding next end_of keys_differ
  fresh_sound =
      let l = long (length b) size in
      let n = length_fresh in
      let u = field 4 (omega arith) ∙ used_zero in
      record {
        size = rw length_fresh size;
        room = omega arith;
        zeros = rw head zeros;
        chained = [];
        linked = field 0 (omega arith) ∙ first_zero;
        once = tt;
        all = sym u;
        each = tt;
        end = sym (field 2 (omega arith) ∙ last_zero);
        keys = refl;
      }

  pub fresh_entries : entries fresh ≡ []
  unfolding fresh_sound
  fresh_entries = entries_are fresh fresh_sound

  no_count : u64_at (drop 6 new_head) 2 ≡ 0
  unfolding new_head u64_at u32_at u16_at
  no_count = refl

  pub fresh_count : count fresh ≡ 0
  fresh_count = count_of fresh ∙ ap (λ (r : List ℕ). u64_at (drop 6 r) 2) head ∙ no_count
