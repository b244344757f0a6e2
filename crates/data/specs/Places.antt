-- The strings of a phone table by the bytes they stand at: which fit by their lengths alone, where they end, and where each phone stands.
-- Assumes nothing.
use Prim.Native.Nat.{ℕ, zero, suc, ◌+◌, ◌-◌, ◌≤◌, ◌<◌}
use Rattle.std.proofs.Common.{add-one, not-suc-le-zero, le_of_suc-le-suc, sym, ◌∙◌, append-nil, length-drop, drop-cons, drop-drop, get_or-drop, get_or-take, take-add, take-suc-set, lt-ltb}
use native.Mathlib.Omega.{arith}
use Rattle.std.specs.Prelude.{◌≡◌, refl, Bool, true, false, ◌&&◌, List, [], ◌∷◌, ◌++◌, length, take, drop, set}
use Rattle.std.proofs.Math.Path.{ap}
use Rattle.std.proofs.Math.ListN.{get_or}
use Rattle.std.proofs.Math.Seq.{append_snoc}
use Rattle.texts.specs.Choice.{cases, both_true}
use Rattle.texts.specs.Lists.{every}
use Rattle.texts.specs.Text.{ascii, low}
use Rattle.records.specs.Fields.{u32_at}
use Rattle.reader.specs.Reader.{fits, string_fits}
use Rattle.data.specs.Sections.{good_string, good_strings, strings, is_phone_table, table_phones, table_strings}

-- so do n strings from a byte on
unfoldable pub all_fit : ℕ → List ℕ → ℕ → Bool
all_fit zero s at = true
all_fit (suc n) s at = fits s at && all_fit n s (at + (1 + get_or s at 0))

-- where n strings from a byte on end
unfoldable pub end_of : ℕ → List ℕ → ℕ → ℕ
end_of zero s at = at
end_of (suc n) s at = end_of n s (at + (1 + get_or s at 0))

-- where each of them stands
unfoldable pub places : ℕ → List ℕ → ℕ → List ℕ
places zero s at = []
places (suc n) s at = at ∷ places n s (at + (1 + get_or s at 0))

-- the text of the string at a byte
unfoldable pub text_at : List ℕ → ℕ → List ℕ
text_at s at = take (get_or s at 0) (drop (at + 1) s)

-- 256 numbers, the places of a table's phones in front
unfoldable pub Placed : List ℕ → List ℕ → Type 0
Placed s ps = (length ps ≡ 256) × (take (u32_at s 0) ps ≡ places (u32_at s 0) s 4)

-- one law for each turn of a loop over the strings from a byte on
module _ (s : List ℕ) (at left : ℕ) (more : 0 < left) where
  pub fit_stop : fits s at ≡ false → all_fit left s at ≡ false
  unfolding all_fit
  fit_stop e = let n : left ≡ suc (left - 1) = omega arith in rw (n, e)

  pub fit_turn : fits s at ≡ true → all_fit left s at ≡ all_fit (left - 1) s (at + (1 + get_or s at 0))
  unfolding all_fit
  fit_turn e = let n : left ≡ suc (left - 1) = omega arith in ap (λ (k : ℕ). all_fit k s at) n ∙ rw e

  pub end_turn : end_of left s at ≡ end_of (left - 1) s (at + (1 + get_or s at 0))
  unfolding end_of
  end_turn = let n : left ≡ suc (left - 1) = omega arith in ap (λ (k : ℕ). end_of k s at) n

  -- the first of several that fit
  pub first_fits : all_fit left s at ≡ true → fits s at ≡ true
  unfolding all_fit
  first_fits e = let n : left ≡ suc (left - 1) = omega arith in (both_true (fits s at) (all_fit (left - 1) s (at + (1 + get_or s at 0))) (sym (ap (λ (k : ℕ). all_fit k s at) n) ∙ e)).0

pub fit_end : (s : List ℕ) (at left : ℕ) → left ≤ 0 → (all_fit left s at ≡ true) × (end_of left s at ≡ at)
unfolding all_fit end_of
fit_end s at left h = let e : left ≡ 0 = omega arith in (rw e, rw e)

at_end : (n : ℕ) (s : List ℕ) (at : ℕ) → at ≤ end_of n s at
unfolding end_of
at_end zero s at = omega arith
at_end (suc n) s at = let h = at_end n s (at + (1 + get_or s at 0)) in omega arith

-- a string is good if it fits and its bytes are low
good_here : (s : List ℕ) (at : ℕ) → good_string (drop at s) ≡ (fits s at && ascii (take (get_or s at 0) (drop (at + 1) s)))
unfolding good_string fits
good_here s at = let z : at + 0 ≡ at = omega arith in rw (get_or-drop at s 0 0, z, length-drop, drop-drop 1 at s)

ascii_none : (s : List ℕ) → ascii (take 0 s) ≡ true
unfolding ascii every
ascii_none s = refl

ascii_append : (xs ys : List ℕ) → ascii (xs ++ ys) ≡ (ascii xs && ascii ys)
unfolding ascii every
ascii_append [] ys = refl
ascii_append (x ∷ xs) ys = cases (low x) (λ e. rw e (ascii_append xs ys)) (λ e. rw e)

-- the bytes of a string with its length byte, and m bytes behind it
ascii_string : (s : List ℕ) (at m : ℕ) → at < length s → get_or s at 0 ≤ 15
    → ascii (take (suc (get_or s at 0 + m)) (drop at s)) ≡ (ascii (take (get_or s at 0) (drop (at + 1) s)) && ascii (take m (drop (at + (1 + get_or s at 0)) s)))
unfolding ascii every low
ascii_string s at m h short =
    let n = get_or s at 0 in
    let e : suc at + n ≡ at + (1 + n) = omega arith in
    ap (λ (x : List ℕ). ascii (take (suc (n + m)) x)) (drop-cons s at 0 h)
    ∙ ap (λ (b : Bool). b && ascii (take (n + m) (drop (suc at) s))) (lt-ltb n 128 (omega arith))
    ∙ ap (λ (x : List ℕ). ascii x) (take-add n m (drop (suc at) s))
    ∙ ascii_append (take n (drop (suc at) s)) (take m (drop n (drop (suc at) s)))
    ∙ ap (λ (x : List ℕ). ascii (take n (drop (suc at) s)) && ascii (take m x)) (drop-drop n (suc at) s ∙ ap (λ (k : ℕ). drop k s) e)
    ∙ rw add-one

swap : (x y z : Bool) → (x && (y && z)) ≡ (y && (x && z))
swap true y z = refl
swap false true z = refl
swap false false z = refl

-- n strings are good exactly if they fit and all bytes up to their end are low, length bytes among them
pub good_fit : (n : ℕ) (s : List ℕ) (at : ℕ) → good_strings n (drop at s) ≡ (all_fit n s at && ascii (take (end_of n s at - at) (drop at s)))
unfolding good_strings all_fit end_of
good_fit zero s at = let z : at - at ≡ 0 = omega arith in rw z (sym (ascii_none (drop at s)))
good_fit (suc n) s at =
    let to = at + (1 + get_or s at 0) in
    let z : at + 0 ≡ at = omega arith in
    let here : Bool = ascii (take (get_or s at 0) (drop (at + 1) s)) in
    let rest : Bool = ascii (take (end_of n s to - to) (drop to s)) in
    let parts : good_strings (suc n) (drop at s) ≡ (fits s at && here && (all_fit n s to && rest)) = rw (good_here s at, get_or-drop at s 0 0, z, drop-drop (1 + get_or s at 0) at s, good_fit n s to) in
    cases (fits s at)
    (λ e.
    let f = string_fits s at e in
    let b = at_end n s to in
    let k : end_of n s to - at ≡ suc (get_or s at 0 + (end_of n s to - to)) = omega arith in
    parts ∙ rw (e, k, ascii_string s at (end_of n s to - to) (omega arith) f.short) (swap here (all_fit n s to) rest))
    (λ e. parts ∙ rw e)

-- the strings of a table fit
pub table_fit : (s : List ℕ) → is_phone_table s ≡ true → all_fit (u32_at s 0) s 4 ≡ true
table_fit s h = (both_true (all_fit (u32_at s 0) s 4) (ascii (take (end_of (u32_at s 0) s 4 - 4) (drop 4 s))) (sym (good_fit (u32_at s 0) s 4) ∙ table_strings s h)).0

-- the next place is written
pub places_turn : (s ps : List ℕ) (n i at : ℕ) → i < n → i < length ps → places n s 4 ≡ take i ps ++ places (n - i) s at
    → places n s 4 ≡ take (i + 1) (set ps i at) ++ places (n - (i + 1)) s (at + (1 + get_or s at 0))
unfolding places
places_turn s ps n i at h inside e =
    let k : n - i ≡ suc (n - (i + 1)) = omega arith in
    let rest = places (n - (i + 1)) s (at + (1 + get_or s at 0)) in
    e
    ∙ ap (λ (m : ℕ). take i ps ++ places m s at) k
    ∙ sym (append_snoc (take i ps) at rest)
    ∙ ap (λ (x : List ℕ). x ++ rest) (sym (take-suc-set ps i at inside))
    ∙ rw add-one

pub places_end : (s ps : List ℕ) (n i at : ℕ) → n ≡ i → places n s 4 ≡ take i ps ++ places (n - i) s at → take n ps ≡ places n s 4
unfolding places
places_end s ps n i at h e =
    let z : n - i ≡ 0 = omega arith in
    ap (λ (k : ℕ). take k ps) h ∙ sym (e ∙ ap (λ (m : ℕ). take i ps ++ places m s at) z ∙ rw append-nil)

-- the k-th of n strings stands at the k-th place
string_placed : (n k : ℕ) (s : List ℕ) (at : ℕ) → all_fit n s at ≡ true → k < n
    → (fits s (get_or (places n s at) k 0) ≡ true) × (get_or (strings n (drop at s)) k [] ≡ text_at s (get_or (places n s at) k 0))
unfolding all_fit strings places text_at
string_placed zero k s at h lt = absurd (not-suc-le-zero lt)
string_placed (suc n) zero s at h lt =
    let z : at + 0 ≡ at = omega arith in
    ((both_true (fits s at) (all_fit n s (at + (1 + get_or s at 0))) h).0, rw (get_or-drop at s 0 0, z, drop-drop 1 at s))
string_placed (suc n) (suc k) s at h lt =
    let z : at + 0 ≡ at = omega arith in
    let b = both_true (fits s at) (all_fit n s (at + (1 + get_or s at 0))) h in
    let ih = string_placed n k s (at + (1 + get_or s at 0)) b.1 (le_of_suc-le-suc lt) in
    (ih.0, rw (get_or-drop at s 0 0, z, drop-drop (1 + get_or s at 0) at s) ih.1)

-- phone k of a table is the string at the k-th place
pub record PhoneAt (s : List ℕ) (place k : ℕ) : Type 0 where
  pub fit : fits s place ≡ true
  pub is : get_or (table_phones s) k [] ≡ text_at s place

pub phone_stands : (s ps : List ℕ) (k : ℕ) → is_phone_table s ≡ true → take (u32_at s 0) ps ≡ places (u32_at s 0) s 4 → k < u32_at s 0 → PhoneAt s (get_or ps k 0) k
unfolding table_phones
phone_stands s ps k h p lt =
    let e : get_or ps k 0 ≡ get_or (places (u32_at s 0) s 4) k 0 = sym (get_or-take (u32_at s 0) ps k 0 lt) ∙ ap (λ (l : List ℕ). get_or l k 0) p in
    let f = string_placed (u32_at s 0) k s 4 (table_fit s h) lt in
    record { fit = rw e f.0; is = rw e f.1 }

pub phone_placed : (s ps : List ℕ) (k : ℕ) → is_phone_table s ≡ true → Placed s ps → k < u32_at s 0 → PhoneAt s (get_or ps k 0) k
unfolding Placed
phone_placed s ps k h p lt = phone_stands s ps k h p.1 lt
