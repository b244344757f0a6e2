-- Adding a known key: it keeps its slot and moves last.
-- Assumes nothing.
use Rattle.std.specs.Prelude.{ℕ, ◌+◌, ◌*◌, ◌≤◌, ◌<◌, ◌≡◌, ◌≢◌, true, false, length}
use Rattle.std.proofs.Common.{arith, ◌∙◌, length-append}
use Rattle.std.proofs.Math.Path.{sym, ap, subst}
use mathlib.Core.List.{List, [], ◌∷◌, ◌++◌, map, map-append}
use Rattle.texts.specs.Lists.{some}
use Rattle.records.specs.Records.{record_at}
use Rattle.records.specs.Chain.{All, Distinct, Linked, end_of, all_map, all_append, all_left, all_right, all_end, end_append, distinct}
use Rattle.slots_spec.specs.Slot.{Entry, Fits}
use Rattle.store_spec.specs.Store.{next, last, used, entry_at, same_key, keys_differ}
use Rattle.store_spec.specs.Adding.{without, adding, cut_out, tied}
use Rattle.store_spec.specs.Sound.{Slot, Sound}
use Rattle.store_spec.proofs.Laws.Bytes.{Kept, kept_kept}
use Rattle.store_spec.proofs.Laws.Keys.{without_one}
use Rattle.store_spec.proofs.Laws.Sought.{none}
use Rattle.store_spec.proofs.Laws.Cut.{from, cut_linked, cut_length, cut_last, cut_used, cut_kept, cut_other, cut_zeros, not_last}
use Rattle.store_spec.proofs.Laws.Tied.{tied_linked, tied_last, tied_used, tied_length, tied_kept, tied_other, tied_entry, tied_sound, tied_zeros}
use Rattle.store_spec.specs.Result.{Added}
use Rattle.store_spec.proofs.Result.{map_kept, is_added, few, within, last_within}

-- a known key keeps its slot and moves last
module _ (b : List ℕ) (e : Entry) (s : Sound b) (f : Fits e) (xs ys : List ℕ) (n : ℕ) (split : s.chained ≡ xs ++ n ∷ ys) (none : some (same_key e) (map (entry_at b) xs) ≡ false)
    (known : same_key e (entry_at b n) ≡ true) where
  h : Linked (next b) 0 (xs ++ n ∷ ys)
  h = subst (λ (l : List ℕ). Linked (next b) 0 l) split s.linked

  each : All (Slot b) (xs ++ n ∷ ys)
  each = subst (λ (l : List ℕ). All (Slot b) l) split s.each

  end : end_of 0 (xs ++ n ∷ ys) ≡ last b
  end = ap (end_of 0) (sym split) ∙ s.end

  low : All (λ (m : ℕ). m ≤ used b) (xs ++ n ∷ ys)
  low = subst (λ (l : List ℕ). All (λ (m : ℕ). m ≤ used b) l) split (within b s)

  fit : 512 * used b + 512 ≤ length b
  fit = let r = s.room in omega arith

  small : used b < 65536
  small = let l = few (length b) s.size in let r = s.room in omega arith

  abbrev p : ℕ
  p = end_of 0 xs

  abbrev d : List ℕ
  d = cut_out b p

  abbrev zs : List ℕ
  zs = xs ++ ys

  here : Slot b n
  here = (all_right (Slot b) xs (n ∷ ys) each).0

  -- the other slots are slots of the store, and not n
  rest : All (λ (m : ℕ). (Slot b m) × (m ≢ n)) zs
  rest =
      let o = (distinct (next b) 0 (xs ++ n ∷ ys) h).1 in
      all_append (λ (m : ℕ). (Slot b m) × (m ≢ n)) xs ys
      (before xs (all_left (Slot b) xs (n ∷ ys) each) o)
      (after ys (all_right (Slot b) xs (n ∷ ys) each).1 (distinct (next b) n ys (from (next b) 0 n xs ys h).1).0)
    where
      after : (l : List ℕ) → All (Slot b) l → All (λ (m : ℕ). n ≢ m) l → All (λ (m : ℕ). (Slot b m) × (m ≢ n)) l
      after [] a o = tt
      after (x ∷ l) a o = ((a.0, λ z. o.0 (sym z)), after l a.1 o.1)

      before : (l : List ℕ) → All (Slot b) l → Distinct (l ++ n ∷ ys) → All (λ (m : ℕ). (Slot b m) × (m ≢ n)) l
      before [] a o = tt
      before (x ∷ l) a o = ((a.0, (all_right (λ (y : ℕ). x ≢ y) l (n ∷ ys) o.0).0), before l a.1 o.1)

  linked : Linked (next d) 0 zs
  linked = cut_linked b (used b) n xs ys h end low fit small

  ended : end_of 0 zs ≡ last d
  ended = cut_last b (used b) n xs ys h end low fit small

  long : length d ≡ length b
  long = cut_length b (used b) n xs ys h end low fit small

  used_d : used d ≡ used b
  used_d = cut_used b (used b) n xs ys h end low fit small

  new : All (λ (x : ℕ). x ≢ n) zs
  new = all_map (λ (m : ℕ). (Slot b m) × (m ≢ n)) (λ (x : ℕ). x ≢ n) zs (λ m k. k.1) rest

  inside : 512 * n + 512 ≤ length d
  inside = let i = here.inside in let l = long in let r = s.room in omega arith

  last_d : last d ≤ used b
  last_d = subst (λ (m : ℕ). m ≤ used b) ended (all_end (λ (m : ℕ). m ≤ used b) 0 zs (omega arith) (all_map (λ (m : ℕ). (Slot b m) × (m ≢ n)) (λ (m : ℕ). m ≤ used b) zs (λ m k. k.0.inside) rest))

  inside_last : 512 * last d + 512 ≤ length d
  inside_last = let i = last_d in let l = long in let r = s.room in omega arith

  short : n < 65536
  short = let i = here.inside in let k = small in omega arith

  abbrev t : List ℕ
  t = tied d n e

  keep : (m : ℕ) → m ≢ 0 → m ≢ n → Kept b t m
  keep m z ne = kept_kept b d t m (cut_kept b (used b) n xs ys h end low fit small m z) (tied_kept d n e zs linked ended here.real new f inside inside_last short m z ne)

  count : length (zs ++ (n ∷ [])) ≡ used b
  count =
      let a = s.all in
      let l : length s.chained ≡ length (xs ++ n ∷ ys) = ap (λ (l : List ℕ). length l) split in
      let i = length-append xs (n ∷ ys) in
      let j = length-append xs ys in
      let k = length-append zs (n ∷ []) in
      omega arith

  pub added_known : Added b t e
  unfolding end_of adding
  added_known =
      let u = tied_used d n e zs linked ended here.real new f inside inside_last short ∙ used_d in
      let c = count in
      let r = s.room in
      is_added b t e s (zs ++ (n ∷ []))
      (tied_length d n e zs linked ended here.real new f inside inside_last short ∙ long)
      (tied_linked d n e zs linked ended here.real new f inside inside_last short)
      (end_append 0 zs (n ∷ []) ∙ sym (tied_last d n e zs linked ended here.real new f inside inside_last short))
      (omega arith)
      (omega arith)
      (all_append (Slot t) zs (n ∷ [])
      (all_map (λ (m : ℕ). (Slot b m) × (m ≢ n)) (Slot t) zs
      (λ m k. record { real = k.0.real; inside = let i = k.0.inside in omega arith; sound = (keep m k.0.real k.1).sound k.0.sound }) rest)
      (record { real = here.real; inside = let i = here.inside in omega arith; sound = tied_sound d n e zs linked ended here.real new f inside inside_last short }, tt))
      (tied_zeros d n e zs linked ended here.real new f inside inside_last short ∙ cut_zeros b (used b) n xs ys h end low fit small)
      (map-append (entry_at t) zs (n ∷ [])
      ∙ rw (
        map_kept b t zs (all_map (λ (m : ℕ). (Slot b m) × (m ≢ n)) (Kept b t) zs (λ m k. keep m k.0.real k.1) rest),
        tied_entry d n e zs linked ended here.real new f inside inside_last short,
      )
      (ap (λ (l : List Entry). l ++ (e ∷ [])) (sym gone)))
    where
      gone : without e (map (entry_at b) s.chained) ≡ map (entry_at b) zs
      gone =
          let m = ap (λ (l : List ℕ). map (entry_at b) l) split ∙ map-append (entry_at b) xs (n ∷ ys) in
          let k = subst (λ (l : List Entry). keys_differ l ≡ true) m s.keys in
          ap (without e) m ∙ without_one e (entry_at b n) (map (entry_at b) xs) (map (entry_at b) ys) none known k ∙ sym (map-append (entry_at b) xs ys)

  -- a slot that is neither the moved one nor the one before it nor the last keeps its bytes
  pub known_other : (m : ℕ) → m ≢ 0 → m ≢ n → m ≢ p → m ≢ last b → record_at 512 t m ≡ record_at 512 b m
  known_other m z ne np nl =
      let hp = all_end (λ (m : ℕ). m ≤ used b) 0 xs (omega arith) (all_left (λ (m : ℕ). m ≤ used b) xs (n ∷ ys) low) in
      tied_other d n e zs linked ended here.real new f inside inside_last short m z ne (not_last b p (used b) m hp (last_within b s) small (omega (arith, fit)) np nl)
      ∙ cut_other b (used b) n xs ys h end low fit small m z np
