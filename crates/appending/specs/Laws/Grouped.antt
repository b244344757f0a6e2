-- How a word in bytes falls into syllables: the first takes the phones up to the first cut, and the rest is grouped alike.
-- Assumes nothing.
use Rattle.std.specs.Prelude.{ℕ, zero, suc, ◌+◌, ◌-◌, ◌≤◌, ◌<◌, ◌≡◌, Bool, true, false, not, List, [], ◌∷◌, ◌++◌, eqb, length, get_or, take, drop, min}
use Rattle.std.specs.List.{AllWithin, IsFirstMatchOrLen}
use Rattle.std.proofs.Common.{not-suc-le-zero, le_of_suc-le-suc, sym, ◌∙◌, eqb-true, ne_eqb}
use native.Mathlib.Omega.{arith}
use Rattle.std.proofs.Math.ListN.{length-drop}
use Rattle.std.proofs.Math.Seq.{get_or-drop, drop-drop, drop-append_seam}
use Rattle.std.proofs.Math.Decide.{dec_le}
use Rattle.std.proofs.lemmas.Bool.{not-false}
use Rattle.texts.specs.Choice.{cases}
use Rattle.texts.specs.Lists.{place}
use Rattle.utterance_spec.specs.Cuts.{grouped, Ended}

-- a cut ends a syllable
unfoldable pub ends : ℕ → Bool
ends m = not (eqb m 0)

-- how many phones the first syllable has
unfoldable pub span : List ℕ → ℕ
span ms = place ends ms + 1

-- the first place that passes is no later than any that does
place_before : (f : ℕ → Bool) (l : List ℕ) (k d : ℕ) → k < length l → f (get_or l k d) ≡ true → place f l ≤ k
unfolding place
place_before f [] k d h t = absurd (not-suc-le-zero h)
place_before f (x ∷ xs) zero d h t = rw t (omega arith)
place_before f (x ∷ xs) (suc k) d h t =
    let ih = place_before f xs k d (le_of_suc-le-suc h) t in
    cases (f x) (λ e. rw e (omega arith)) (λ e. rw e (omega arith))

pub span_fits : (ms : List ℕ) → 0 < length ms → Ended ms → span ms ≤ length ms
unfolding span ends
span_fits ms h e =
    let n : ℕ = length ms - 1 in
    let t : not (eqb (get_or ms n 0) 0) ≡ true = rw (ne_eqb (get_or ms n 0) 0 (e h)) in
    let p = place_before ends ms n 0 (omega arith) t in
    omega arith

pub ended_from : (ms : List ℕ) (i : ℕ) → Ended ms → Ended (drop i ms)
ended_from ms i e h =
    let l = length-drop i ms in
    let k : i + (length (drop i ms) - 1) ≡ length ms - 1 = omega arith in
    rw (get_or-drop i ms (length (drop i ms) - 1) 0, k) (e (omega arith))

-- the bytes up to the first that passes, with it, as `split_inclusive` cuts them off
first_place : (f : ℕ → Bool) (ms : List ℕ) (j : ℕ) → j < length ms → AllWithin (λ m. f m ≡ false) ms 0 j → f (get_or ms j 0) ≡ true → place f ms ≡ j
unfolding place
first_place f [] j h n t = absurd (not-suc-le-zero h)
first_place f (m ∷ ms) zero h n t = rw t
first_place f (m ∷ ms) (suc j) h n t =
    rw (n 0 0 (omega arith) (omega arith), first_place f ms j (le_of_suc-le-suc h) (λ k d a b. n (suc k) d (omega arith) (omega arith)) t)

part_span : (ms : List ℕ) (n j : ℕ) → Ended ms → n ≡ min (j + 1) (length ms) → IsFirstMatchOrLen ends ms j → 0 < length ms → n ≡ span ms
unfolding span ends
part_span ms n j e l f h =
    let k : ℕ = length ms - 1 in
    let inside : Dec (j ≤ k) → n ≡ place (λ m. not (eqb m 0)) ms + 1 = λ d. elim d [
      | yes b ↦ let p = first_place ends ms j (omega arith) f.0 (f.1 (omega arith) 0) in omega arith
      | no b ↦ absurd (e h (eqb-true (get_or ms k 0) 0 (not-false (eqb (get_or ms k 0) 0) (f.0 k 0 (omega arith) (omega arith)))))
    ] in
    inside (dec_le j k)

-- the same from place i on: what is cut off is the first syllable of the rest, and what is left stands behind it
pub record Part (ms cut left : List ℕ) (i : ℕ) : Type 0 where
  pub is : drop i ms ≡ cut ++ left
  pub more : i < length ms
  pub end : i + length cut ≡ i + span (drop i ms)
  pub some : 0 < length cut
  pub fits : i + length cut ≤ length ms
  pub behind : left ≡ drop (i + length cut) ms

pub part : (ms rest cut left : List ℕ) (i j : ℕ) → Ended ms → rest ≡ drop i ms → rest ≡ cut ++ left → length cut ≡ min (j + 1) (length rest)
    → IsFirstMatchOrLen ends rest j → 0 < length rest → Part ms cut left i
part ms rest cut left i j e d c l f h =
    let r : length rest ≡ length ms - i = rw (d, length-drop) in
    let s = part_span rest (length cut) j (rw d (ended_from ms i e)) l f h in
    record {
      is = sym d ∙ c;
      more = omega arith;
      end = rw (← d) (omega arith);
      some = omega arith;
      fits = omega arith;
      behind = sym (drop-append_seam cut left) ∙ rw (← c, d, drop-drop);
    }

-- one phone that ends no syllable, or one that does
place_on : (m : ℕ) (ms : List ℕ) → eqb m 0 ≡ true → place ends (m ∷ ms) ≡ suc (place ends ms)
unfolding place ends
place_on m ms t = rw t

place_off : (m : ℕ) (ms : List ℕ) → eqb m 0 ≡ false → place ends (m ∷ ms) ≡ 0
unfolding place ends
place_off m ms t = rw t

pub more_after : (m : ℕ) (ms : List ℕ) → eqb m 0 ≡ true → Ended (m ∷ ms) → 0 < length ms
more_after m [] t e = absurd (e (omega arith) (eqb-true m 0 t))
more_after m (n ∷ ms) t e = omega arith

-- the first syllable, and the rest
pub grouped_next : (ms : List ℕ) (ps : List (List ℕ)) → length ms ≡ length ps → 0 < length ms → Ended ms
    → grouped ms ps ≡ record { stress = get_or ms (place ends ms) 0; phones = take (span ms) ps } ∷ grouped (drop (span ms) ms) (drop (span ms) ps)
unfolding grouped span
grouped_next [] ps l h e = absurd (not-suc-le-zero h)
grouped_next (m ∷ ms) [] l h e = absurd (omega arith)
grouped_next (m ∷ ms) (p ∷ ps) l h e =
    cases (eqb m 0)
    (λ t.
    let ih = grouped_next ms ps (omega arith) (more_after m ms t e) (ended_from (m ∷ ms) 1 e) in
    let k : suc (place ends ms) + 1 ≡ suc (place ends ms + 1) = omega arith in
    rw (t, place_on m ms t, k, ih))
    (λ t. rw (t, place_off m ms t))

-- the same from phone i on, up to e
module _ (ms : List ℕ) (ps : List (List ℕ)) (i e : ℕ) (l : length ms ≡ length ps) (more : i < length ms) (ended : Ended ms) (end : e ≡ i + span (drop i ms)) where
  pub end_behind : (i < e) × (e ≤ length ms)
  unfolding span
  end_behind =
      let d = length-drop i ms in
      let f = span_fits (drop i ms) (omega arith) (ended_from ms i ended) in
      (omega arith, omega arith)

  pub grouped_from : grouped (drop i ms) (drop i ps) ≡ record { stress = get_or ms (e - 1) 0; phones = take (e - i) (drop i ps) } ∷ grouped (drop e ms) (drop e ps)
  unfolding span
  grouped_from =
      let d = length-drop i ms in
      let d₁ = length-drop i ps in
      let k : span (drop i ms) ≡ e - i = omega arith in
      let s : i + place ends (drop i ms) ≡ e - 1 = omega arith in
      let f = get_or-drop i ms (place ends (drop i ms)) 0 in
      let g = drop-drop (span (drop i ms)) i ms in
      let g₁ = drop-drop (span (drop i ms)) i ps in
      grouped_next (drop i ms) (drop i ps) (omega arith) (omega arith) (ended_from ms i ended)
      ∙ rw (f, s, g, g₁, ← end, k)
