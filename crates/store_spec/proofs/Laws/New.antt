-- Adding a new key: it takes slot used + 1.
-- Assumes nothing.
use Rattle.std.specs.Prelude.{ℕ, ◌+◌, ◌*◌, ◌≤◌, ◌<◌, ◌≡◌, ◌≢◌, false, List, [], ◌∷◌, ◌++◌, map, length}
use native.Mathlib.Omega.{arith}
use Rattle.std.proofs.Math.Path.{sym}
use Rattle.std.proofs.Common.{◌∙◌, length-append}
use Rattle.std.proofs.lemmas.List.{map-append}
use Rattle.texts.specs.Lists.{some}
use Rattle.records.specs.Fields.{put16, length_put16, u16_put_same, u16_put_other}
use Rattle.records.specs.Records.{record_at}
use Rattle.records.specs.Chain.{All, end_of, all_map, all_append, end_append, frame}
use Rattle.slots_spec.specs.Slot.{Entry, Fits}
use Rattle.store_spec.specs.Store.{next, last, used, slots, entry_at, same_key}
use Rattle.store_spec.specs.Adding.{adding, tied}
use Rattle.store_spec.specs.Sound.{Slot, Sound}
use Rattle.store_spec.proofs.Laws.Bytes.{Kept, kept_same, kept_kept, field_next, field_record, field_zeros}
use Rattle.store_spec.proofs.Laws.Keys.{without_none}
use Rattle.store_spec.proofs.Laws.Sought.{none}
use Rattle.store_spec.proofs.Laws.Tied.{tied_linked, tied_last, tied_length, tied_kept, tied_other, tied_entry, tied_sound, tied_zeros}
use Rattle.store_spec.specs.Result.{Added}
use Rattle.store_spec.proofs.Result.{all_of, map_kept, is_added, few, within, last_within}

-- a new key takes slot used + 1
module _ (b : List ℕ) (e : Entry) (s : Sound b) (f : Fits e) (none : some (same_key e) (map (entry_at b) s.chained) ≡ false) (room : used b + 1 < slots b) where
  abbrev n : ℕ
  n = used b + 1

  abbrev t : List ℕ
  t = tied b n e

  abbrev c : List ℕ
  c = put16 t 4 n

  new : All (λ (x : ℕ). x ≢ n) s.chained
  new = all_map (λ (x : ℕ). x ≤ used b) (λ (x : ℕ). x ≢ n) s.chained (λ x l z. absurd (omega arith)) (within b s)

  inside : 512 * n + 512 ≤ length b
  inside = omega arith

  inside_last : 512 * last b + 512 ≤ length b
  inside_last = let l = last_within b s in omega arith

  short : n < 65536
  short = let l = few (length b) s.size in omega arith

  long : length t ≡ length b
  long = tied_length b n e s.chained s.linked s.end (λ z. absurd (omega arith)) new f inside inside_last short

  used_c : used c ≡ n
  used_c = let l = long in u16_put_same t 4 n (omega arith) short

  last_c : last c ≡ n
  last_c =
      u16_put_other t 4 2 n (λ z. absurd (omega arith)) (λ z. absurd (omega arith)) (λ z. absurd (omega arith))
      ∙ tied_last b n e s.chained s.linked s.end (λ z. absurd (omega arith)) new f inside inside_last short

  keep : (m : ℕ) → m ≢ 0 → m ≢ n → Kept b c m
  keep m z ne =
      kept_kept b t c m (tied_kept b n e s.chained s.linked s.end (λ z. absurd (omega arith)) new f inside inside_last short m z ne)
      (kept_same t c m (field_record t 4 n (omega arith, omega arith) m z))

  old : All (λ (m : ℕ). (Slot b m) × (m ≢ n)) s.chained
  old = all_map (Slot b) (λ (m : ℕ). (Slot b m) × (m ≢ n)) s.chained (λ m k. (k, λ z. let l = k.inside in absurd (omega arith))) s.each

  pub added_new_lem : Added b c e
  unfolding end_of adding
  added_new_lem =
      let g = field_next t 4 n (omega arith, omega arith) in
      let r : n ≢ 0 = λ z. absurd (omega arith) in
      let l = tied_linked b n e s.chained s.linked s.end r new f inside inside_last short in
      let u = used_c in
      is_added b c e s (s.chained ++ (n ∷ []))
      (length_put16 t 4 n ∙ long)
      (frame (next t) (next c) 0 (s.chained ++ (n ∷ [])) (g 0) (all_of (λ (x : ℕ). next c x ≡ next t x) (s.chained ++ (n ∷ [])) g) l)
      (end_append 0 s.chained (n ∷ []) ∙ sym last_c)
      (length-append s.chained (n ∷ []) ∙ omega (arith, s.all))
      (omega arith)
      (all_append (Slot c) s.chained (n ∷ [])
      (all_map (λ (m : ℕ). (Slot b m) × (m ≢ n)) (Slot c) s.chained
      (λ m k. record { real = k.0.real; inside = let i = k.0.inside in omega arith; sound = (keep m k.0.real k.1).sound k.0.sound }) old) (
        record {
          real = r;
          inside = omega arith;
          sound = rw (field_record t 4 n (omega arith, omega arith) n r)
              (tied_sound b n e s.chained s.linked s.end r new f inside inside_last short);
        },
        tt,
      ))
      (field_zeros t 4 n (omega arith, omega arith) ∙ tied_zeros b n e s.chained s.linked s.end r new f inside inside_last short)
      (map-append (entry_at c) s.chained (n ∷ [])
      ∙ rw (
        map_kept b c s.chained (all_map (λ (m : ℕ). (Slot b m) × (m ≢ n)) (Kept b c) s.chained (λ m k. keep m k.0.real k.1) old),
        without_none e (map (entry_at b) s.chained) none,
        (kept_same t c n (field_record t 4 n (omega arith, omega arith) n r)).entry ∙ tied_entry b n e s.chained s.linked s.end r new f inside inside_last short,
      ))

  pub new_other : (m : ℕ) → m ≢ 0 → m ≢ n → m ≢ last b → record_at 512 c m ≡ record_at 512 b m
  new_other m z ne nl =
      field_record t 4 n (omega arith, omega arith) m z
      ∙ tied_other b n e s.chained s.linked s.end (λ z. absurd (omega arith)) new f inside inside_last short m z ne nl
