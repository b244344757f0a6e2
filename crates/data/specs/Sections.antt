-- 01, Sections: the form of each section that a call takes (refusal 1), and the phones of a table.
-- Assumes nothing.
use Prim.Native.Nat.{ℕ, zero, suc, ◌+◌, ◌-◌, ◌*◌, ◌%◌, ◌≤◌, ◌<◌}
use Rattle.std.proofs.Common.{not-suc-le-zero, le_of_suc-le-suc, ◌∙◌, length-take, get_or-drop, leb-true, ltb-true}
use native.Mathlib.Omega.{arith}
use Rattle.std.specs.Prelude.{◌≡◌, refl, Bool, true, false, ◌&&◌, List, [], ◌∷◌, leb, ltb, eqb, length, take, drop}
use Rattle.std.proofs.Math.Path.{ap}
use Rattle.std.proofs.Math.ListN.{get_or}
use Rattle.std.proofs.Math.Seq.{drop-drop}
use Rattle.texts.specs.Choice.{both_true}
use Rattle.texts.specs.Lists.{some}
use Rattle.texts.specs.Text.{ascii, same}
use Rattle.records.specs.Fields.{u32_at}

-- a string at the front: a length byte up to 15 and that many bytes below 128
unfoldable pub good_string : List ℕ → Bool
good_string s = ltb (get_or s 0 0) (length s) && leb (get_or s 0 0) 15 && ascii (take (get_or s 0 0) (drop 1 s))

-- n strings at the front
unfoldable pub good_strings : ℕ → List ℕ → Bool
good_strings zero s = true
good_strings (suc n) s = good_string s && good_strings n (drop (1 + get_or s 0 0) s)

-- their texts
unfoldable pub strings : ℕ → List ℕ → List (List ℕ)
strings zero s = []
strings (suc n) s = take (get_or s 0 0) (drop 1 s) ∷ strings n (drop (1 + get_or s 0 0) s)

-- lex.phones and lts.phones: a u32 count up to 256, then so many strings; later bytes are ignored
unfoldable pub is_phone_table : List ℕ → Bool
is_phone_table s = leb 4 (length s) && leb (u32_at s 0) 256 && good_strings (u32_at s 0) (drop 4 s)

-- the phones of a table
unfoldable pub table_phones : List ℕ → List (List ℕ)
table_phones s = strings (u32_at s 0) (drop 4 s)

-- a table lists this phone
unfoldable pub is_listed : List ℕ → List ℕ → Bool
is_listed s p = some (same p) (table_phones s)

-- lex.index: a u32 count, and room for so many u32 offsets
unfoldable pub is_lex_index : List ℕ → Bool
is_lex_index s = leb 4 (length s) && leb (4 + 4 * u32_at s 0) (length s)

-- lts.index: 26 u16
abbrev pub is_lts_index : List ℕ → Bool
is_lts_index s = leb 52 (length s)

-- lts.model: nodes of 6 bytes, at most 65,536
unfoldable pub is_lts_model : List ℕ → Bool
is_lts_model s = leb (length s) 393216 && eqb (length s % 6) 0

-- aswd.p and aswd.s
abbrev pub is_aswd : List ℕ → Bool
is_aswd s = leb 4 (length s)

length_strings : (n : ℕ) (s : List ℕ) → length (strings n s) ≡ n
unfolding strings
length_strings zero s = refl
length_strings (suc n) s = ap suc (length_strings n (drop (1 + get_or s 0 0) s))

-- a table has as many phones as its count says
pub length_table : (s : List ℕ) → length (table_phones s) ≡ u32_at s 0
unfolding table_phones
length_table s = length_strings (u32_at s 0) (drop 4 s)

-- a string at the front: its length, its end, its bytes
pub record String (s : List ℕ) : Type 0 where
  pub inside : get_or s 0 0 < length s
  pub short : get_or s 0 0 ≤ 15
  pub low : ascii (take (get_or s 0 0) (drop 1 s)) ≡ true

pub string_front : (s : List ℕ) → good_string s ≡ true → String s
unfolding good_string
string_front s h =
    let a = both_true (ltb (get_or s 0 0) (length s) && leb (get_or s 0 0) 15) (ascii (take (get_or s 0 0) (drop 1 s))) h in
    let b = both_true (ltb (get_or s 0 0) (length s)) (leb (get_or s 0 0) 15) a.0 in
    record { inside = ltb-true (get_or s 0 0) (length s) b.0; short = leb-true (get_or s 0 0) 15 b.1; low = a.1 }

-- the first of several strings, and those behind it
pub first_string : (n : ℕ) (s : List ℕ) → good_strings (suc n) s ≡ true → String s × (good_strings n (drop (1 + get_or s 0 0) s) ≡ true)
unfolding good_strings
first_string n s h =
    let b = both_true (good_string s) (good_strings n (drop (1 + get_or s 0 0) s)) h in
    (string_front s b.0, b.1)

-- one law for each turn of a loop that looks for a string
module _ (s : List ℕ) (at m : ℕ) (more : 0 < m) where
  pub listed_here : (p : List ℕ) → same p (take (get_or s at 0) (drop (at + 1) s)) ≡ true → some (same p) (strings m (drop at s)) ≡ true
  unfolding strings some
  listed_here p e =
      let n : m ≡ suc (m - 1) = omega arith in
      let z : at + 0 ≡ at = omega arith in
      ap (λ (k : ℕ). some (same p) (strings k (drop at s))) n ∙ rw (get_or-drop at s 0 0, z, drop-drop 1 at s, e)

  pub listed_behind : (p : List ℕ) → same p (take (get_or s at 0) (drop (at + 1) s)) ≡ false
      → some (same p) (strings m (drop at s)) ≡ some (same p) (strings (m - 1) (drop (at + (1 + get_or s at 0)) s))
  unfolding strings some
  listed_behind p e =
      let n : m ≡ suc (m - 1) = omega arith in
      let z : at + 0 ≡ at = omega arith in
      ap (λ (k : ℕ). some (same p) (strings k (drop at s))) n ∙ rw (get_or-drop at s 0 0, z, drop-drop 1 at s, e, drop-drop (1 + get_or s at 0) at s)

pub listed_end : (p s : List ℕ) (m : ℕ) → m ≤ 0 → some (same p) (strings m s) ≡ false
unfolding strings some
listed_end p s m h = let e : m ≡ 0 = omega arith in rw e

-- a phone of a table has at most 15 bytes, all below 128
pub record Phone (p : List ℕ) : Type 0 where
  pub short : length p ≤ 15
  pub low : ascii p ≡ true

string_fits : (n k : ℕ) (s : List ℕ) → good_strings n s ≡ true → k < n → Phone (get_or (strings n s) k [])
unfolding strings
string_fits zero k s h lt = absurd (not-suc-le-zero lt)
string_fits (suc n) zero s h lt =
    let f = (first_string n s h).0 in
    record { short = omega (arith, length-take (get_or s 0 0) (drop 1 s), f.short); low = f.low }
string_fits (suc n) (suc k) s h lt = string_fits n k (drop (1 + get_or s 0 0) s) (first_string n s h).1 (le_of_suc-le-suc lt)

pub table_strings : (s : List ℕ) → is_phone_table s ≡ true → good_strings (u32_at s 0) (drop 4 s) ≡ true
unfolding is_phone_table
table_strings s h = (both_true (leb 4 (length s) && leb (u32_at s 0) 256) (good_strings (u32_at s 0) (drop 4 s)) h).1

pub table_count : (s : List ℕ) → is_phone_table s ≡ true → (4 ≤ length s) × (u32_at s 0 ≤ 256)
unfolding is_phone_table
table_count s h =
    let a = (both_true (leb 4 (length s) && leb (u32_at s 0) 256) (good_strings (u32_at s 0) (drop 4 s)) h).0 in
    let b = both_true (leb 4 (length s)) (leb (u32_at s 0) 256) a in
    (leb-true 4 (length s) b.0, leb-true (u32_at s 0) 256 b.1)

pub table_fits : (s : List ℕ) (k : ℕ) → is_phone_table s ≡ true → k < u32_at s 0 → Phone (get_or (table_phones s) k [])
unfolding table_phones
table_fits s k h lt = string_fits (u32_at s 0) k (drop 4 s) (table_strings s h) lt
