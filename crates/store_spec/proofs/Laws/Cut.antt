-- A slot cut out of the chain: the others are chained as before, and hold what they held.
-- Assumes nothing.
use Rattle.std.specs.Prelude.{ℕ, ◌+◌, ◌*◌, ◌≤◌, ◌<◌, ◌≡◌, ◌≢◌, Bool, length, drop}
use native.Mathlib.Omega.{arith}
use Rattle.std.proofs.Math.Path.{refl, sym}
use Rattle.std.proofs.Common.{ap, ◌∙◌, subst}
use Rattle.std.proofs.Math.Bool.{true, false}
use mathlib.Core.List.{List, [], ◌∷◌, ◌++◌}
use Rattle.std.proofs.Math.Dec.{eqb}
use borrow.Author.Tests.{eq-eqb, ne_eqb}
use Rattle.texts.specs.Choice.{when◌then◌else◌, cases}
use Rattle.records.specs.Fields.{put16, length_put16, u16_put_same, u16_put_other}
use Rattle.records.specs.Records.{record_at}
use Rattle.records.specs.Chain.{All, Linked, end_of, all_left, all_right, all_end, end_append, distinct, cut}
use Rattle.store_spec.specs.Store.{next, last, used}
use Rattle.store_spec.specs.Adding.{cut_out}
use Rattle.store_spec.proofs.Laws.Bytes.{Kept, kept_same, kept_kept, next_same, next_other, next_used, next_record, next_kept, next_zeros, field_next, field_record, field_zeros}

-- the number behind a slot of the chain is one of the chain, or 0
behind : (f : ℕ → ℕ) (p top : ℕ) (xs : List ℕ) → Linked f p xs → All (λ (n : ℕ). n ≤ top) xs → f p ≤ top
behind f p top [] h a = omega arith
behind f p top (x ∷ xs) h a = let e = h.0 in let l = a.0 in omega arith

pub from : (f : ℕ → ℕ) (p s : ℕ) (xs ys : List ℕ) → Linked f p (xs ++ s ∷ ys) → (f (end_of p xs) ≡ s) × Linked f s ys
unfolding end_of
from f p s [] ys h = (h.0, h.2)
from f p s (x ∷ xs) ys h = from f x s xs ys h.2

-- slot s cut out of the chain
module _ (b : List ℕ) (top s : ℕ) (xs ys : List ℕ) (h : Linked (next b) 0 (xs ++ s ∷ ys)) (end : end_of 0 (xs ++ s ∷ ys) ≡ last b)
    (a : All (λ (n : ℕ). n ≤ top) (xs ++ s ∷ ys)) (fits : 512 * top + 512 ≤ length b) (small : top < 65536) where
  abbrev p : ℕ
  p = end_of 0 xs

  p_top : p ≤ top
  p_top = all_end (λ (n : ℕ). n ≤ top) 0 xs (omega arith) (all_left (λ (n : ℕ). n ≤ top) xs (s ∷ ys) a)

  s_behind : next b p ≡ s
  s_behind = (from (next b) 0 s xs ys h).0

  abbrev mid : List ℕ
  mid = put16 b (512 * p) (next b (next b p))

  abbrev out : List ℕ
  out = put16 mid 2 (when eqb (next b p) (last b) then p else last b)

  out_is : cut_out b p ≡ out
  unfolding cut_out
  out_is = refl

  pub cut_linked : Linked (next (cut_out b p)) 0 (xs ++ ys)
  cut_linked =
      let t = behind (next b) s top ys (from (next b) 0 s xs ys h).1 (all_right (λ (n : ℕ). n ≤ top) xs (s ∷ ys) a).1 in
      let f = field_next mid 2 (when eqb (next b p) (last b) then p else last b) (omega arith, omega arith) in
      let i = p_top in
      let e : next b (next b p) ≡ next b s = ap (next b) s_behind in
      rw out_is (cut (next b) (next out) 0 s xs ys h
      (f p ∙ next_same b p (next b (next b p)) (omega arith) (omega arith) ∙ e)
      (λ q ne. f q ∙ next_other b p (next b (next b p)) q ne))

  pub cut_length : length (cut_out b p) ≡ length b
  unfolding cut_out
  cut_length = length_put16 mid 2 (when eqb (next b p) (last b) then p else last b) ∙ length_put16 b (512 * p) (next b (next b p))

  cut_field : (v : ℕ) → v < 65536 → last (put16 mid 2 v) ≡ v
  cut_field v l = let n = length_put16 b (512 * p) (next b (next b p)) in u16_put_same mid 2 v (omega arith) l

  last_top : last b ≤ top
  last_top = subst (λ (n : ℕ). n ≤ top) end (all_end (λ (n : ℕ). n ≤ top) 0 (xs ++ s ∷ ys) (omega arith) a)

  pub cut_last : end_of 0 (xs ++ ys) ≡ last (cut_out b p)
  unfolding end_of
  cut_last = go ys (from (next b) 0 s xs ys h).1 (end_append 0 xs (s ∷ ys)) (end_append 0 xs ys) ∙ sym (ap last out_is)
    where
      go : (zs : List ℕ) → Linked (next b) s zs → end_of 0 (xs ++ s ∷ ys) ≡ end_of p (s ∷ zs) → end_of 0 (xs ++ ys) ≡ end_of p zs → end_of 0 (xs ++ ys) ≡ last out
      go [] k e o =
          let t : next b p ≡ last b = s_behind ∙ sym e ∙ end in
          let i = p_top in
          let c : eqb (next b p) (last b) ≡ true = eq-eqb (next b p) (last b) t in
          o ∙ sym (ap (λ (q : Bool). last (put16 mid 2 (when q then p else last b))) c ∙ cut_field p (omega arith))
      go (z ∷ zs) k e o =
          let d = (distinct (next b) s (z ∷ zs) k).0 in
          let n : s ≢ end_of z zs = all_end (λ (x : ℕ). s ≢ x) z zs d.0 d.1 in
          let c : eqb (next b p) (last b) ≡ false = ne_eqb (next b p) (last b) (λ t. n (sym s_behind ∙ t ∙ sym end ∙ e)) in
          let i = last_top in
          o ∙ sym e ∙ end ∙ sym (ap (λ (q : Bool). last (put16 mid 2 (when q then p else last b))) c ∙ cut_field (last b) (omega arith))

  pub cut_used : used (cut_out b p) ≡ used b
  unfolding cut_out
  cut_used =
      u16_put_other mid 2 4 (when eqb (next b p) (last b) then p else last b) (λ e. absurd (omega arith)) (λ e. absurd (omega arith)) (λ e. absurd (omega arith))
      ∙ next_used b p (next b (next b p))

  pub cut_kept : (n : ℕ) → n ≢ 0 → Kept b (cut_out b p) n
  unfolding cut_out
  cut_kept n ne =
      kept_kept b mid out n (next_kept b p (next b (next b p)) n)
      (kept_same mid out n (field_record mid 2 (when eqb (next b p) (last b) then p else last b) (omega arith, omega arith) n ne))

  -- a slot that is not the one before keeps its bytes
  pub cut_other : (m : ℕ) → m ≢ 0 → m ≢ p → record_at 512 (cut_out b p) m ≡ record_at 512 b m
  unfolding cut_out
  cut_other m ne np = field_record mid 2 (when eqb (next b p) (last b) then p else last b) (omega arith, omega arith) m ne ∙ next_record b p (next b (next b p)) m np

  pub cut_zeros : drop 6 (record_at 512 (cut_out b p) 0) ≡ drop 6 (record_at 512 b 0)
  unfolding cut_out
  cut_zeros = field_zeros mid 2 (when eqb (next b p) (last b) then p else last b) (omega arith, omega arith) ∙ next_zeros b p (next b (next b p))

-- where the chain of a store ends with a slot cut out: at the one before it, or where it ended
pub cut_end : (b : List ℕ) (p top : ℕ) → p ≤ top → last b ≤ top → top < 65536 → 3 < length b → last (cut_out b p) ≡ (when eqb (next b p) (last b) then p else last b)
unfolding cut_out
cut_end b p top hp hl t l =
    let m = put16 b (512 * p) (next b (next b p)) in
    let n = length_put16 b (512 * p) (next b (next b p)) in
    cases (eqb (next b p) (last b))
    (λ e. rw (e, u16_put_same m 2 p (omega arith) (omega arith)))
    (λ e. rw (e, u16_put_same m 2 (last b) (omega arith) (omega arith)))

pub last_cut : (b : List ℕ) (p top : ℕ) → p ≤ top → last b ≤ top → top < 65536 → 3 < length b → last (cut_out b p) ≤ top
last_cut b p top hp hl t l = rw (cut_end b p top hp hl t l) (cases (eqb (next b p) (last b)) (λ e. rw e hp) (λ e. rw e hl))

-- so a slot that is neither is not the last
pub not_last : (b : List ℕ) (p top m : ℕ) → p ≤ top → last b ≤ top → top < 65536 → 3 < length b → m ≢ p → m ≢ last b → m ≢ last (cut_out b p)
not_last b p top m hp hl t l np nl z =
    cases (eqb (next b p) (last b))
    (λ e. np (z ∙ cut_end b p top hp hl t l ∙ ap (λ (q : Bool). when q then p else last b) e))
    (λ e. nl (z ∙ cut_end b p top hp hl t l ∙ ap (λ (q : Bool). when q then p else last b) e))
