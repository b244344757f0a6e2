-- Byte strings. 01, Lookup: case folding; Adding: blanks; What a call gives back: words and tags.
-- Assumes nothing.
use Rattle.std.specs.Prelude.{ℕ, zero, suc, ◌+◌, ◌-◌, ◌≤◌, ◌<◌, ◌≡◌, refl, Bool, true, false, not, ◌&&◌, ◌||◌, List, [], ◌∷◌, ◌++◌, eqb, leb, ltb, length, get_or, take, drop}
use Rattle.std.proofs.Common.{arith, add-one}
use Prim.Native.Char.{code}
use Prim.Native.String.{String, [] as nil, ◌∷◌ as ◌c∷◌}
use Rattle.std.proofs.Math.ListN.{drop_of_length-le}
use Rattle.std.proofs.Math.Seq.{drop-cons, take-append_seam}
use borrow.Author.Tests.{eqb-true, eq-eqb, ne_eqb, ltb-true, ltb-false, leb-true, le-leb}
use Rattle.texts.specs.Choice.{when◌then◌else◌, cases, both_true, never, is_false}
use Rattle.texts.specs.Lists.{every, every_at, some}

-- the bytes of a quoted text
abbrev pub bytes : String → List ℕ
bytes nil = []
bytes (◌c∷◌ c s) = code c ∷ bytes s

-- case folding touches A to Z only
unfoldable pub folded : ℕ → ℕ
folded b = when leb 65 b && leb b 90 then b + 32 else b

-- blanks are 9 to 13 and 32
unfoldable pub blank : ℕ → Bool
blank b = leb 9 b && leb b 13 || eqb b 32

-- a byte is this one
unfoldable pub is : ℕ → ℕ → Bool
is b x = eqb x b

-- a byte below 128
unfoldable pub low : ℕ → Bool
low b = ltb b 128

-- every byte is below 128
unfoldable pub ascii : List ℕ → Bool
ascii s = every low s

-- a word or a tag is at most 47 bytes, each below 128 (refusal 3)
unfoldable pub is_word : List ℕ → Bool
is_word s = leb (length s) 47 && ascii s

-- a phone has at most 15 bytes, each below 128
unfoldable pub is_phone : List ℕ → Bool
is_phone p = leb (length p) 15 && ascii p

-- one tag is another; or, where "0" is any tag, one of them is "0"
unfoldable pub agree : Bool → ℕ → ℕ → Bool
agree any a b = eqb a b || any && (eqb a 48 || eqb b 48)

-- two strings have the same bytes
unfoldable pub same : List ℕ → List ℕ → Bool
same [] [] = true
same [] (y ∷ ys) = false
same (x ∷ xs) [] = false
same (x ∷ xs) (y ∷ ys) = eqb x y && same xs ys

-- no two strings of a list have the same bytes
unfoldable pub distinct : List (List ℕ) → Bool
distinct [] = true
distinct (x ∷ xs) = not (some (same x) xs) && distinct xs

-- one string is smaller than another, bytewise
unfoldable pub smaller : List ℕ → List ℕ → Bool
smaller [] [] = false
smaller [] (y ∷ ys) = true
smaller (x ∷ xs) [] = false
smaller (x ∷ xs) (y ∷ ys) = when eqb x y then smaller xs ys else ltb x y

pub same_refl : (xs : List ℕ) → same xs xs ≡ true
unfolding same
same_refl [] = refl
same_refl (x ∷ xs) = rw (eq-eqb x x refl) (same_refl xs)

pub same_true : (xs ys : List ℕ) → same xs ys ≡ true → xs ≡ ys
unfolding same
same_true [] [] h = refl
same_true [] (y ∷ ys) h = never false h refl
same_true (x ∷ xs) [] h = never false h refl
same_true (x ∷ xs) (y ∷ ys) h =
    let b = both_true (eqb x y) (same xs ys) h in
    let e = eqb-true x y b.0 in
    let t = same_true xs ys b.1 in
    cc

pub eq_same : (xs ys : List ℕ) → xs ≡ ys → same xs ys ≡ true
eq_same xs ys e = rw e (same_refl ys)

pub ne_same : (xs ys : List ℕ) → (xs ≡ ys → ⊥) → same xs ys ≡ false
ne_same xs ys h = is_false (same xs ys) (λ e. h (same_true xs ys e))

-- two strings compared from a place on
module _ (a b : List ℕ) (i : ℕ) where
  pub smaller_turn : i < length a → i < length b → get_or a i 0 ≡ get_or b i 0 → smaller (drop i a) (drop i b) ≡ smaller (drop (i + 1) a) (drop (i + 1) b)
  unfolding smaller
  smaller_turn ha hb e = rw (add-one, drop-cons a i 0 ha, drop-cons b i 0 hb, eq-eqb _ _ e)

  pub smaller_stop : i < length a → i < length b → (get_or a i 0 ≡ get_or b i 0 → ⊥) → smaller (drop i a) (drop i b) ≡ ltb (get_or a i 0) (get_or b i 0)
  unfolding smaller
  smaller_stop ha hb e = rw (drop-cons a i 0 ha, drop-cons b i 0 hb, ne_eqb _ _ e)

  pub smaller_long : i < length a → length b ≤ i → smaller (drop i a) (drop i b) ≡ false
  unfolding smaller
  smaller_long ha hb = rw (drop-cons a i 0 ha, drop_of_length-le b hb)

  pub smaller_end : length a ≤ i → smaller (drop i a) (drop i b) ≡ ltb i (length b)
  unfolding smaller
  smaller_end ha =
      cases (ltb i (length b))
      (λ e. rw (e, drop_of_length-le a ha, drop-cons b i 0 (ltb-true i (length b) e)))
      (λ e. rw (e, drop_of_length-le a ha, drop_of_length-le b (ltb-false i (length b) e)))

-- a text behind its length byte, as the code cuts it out of a row
module _ (row x rest : List ℕ) (n : ℕ) (e : row ≡ length x ∷ x ++ rest) (en : n ≡ get_or row 0 0) where
  pub counted_length : n ≡ length x
  counted_length = rw e at en

  pub counted_text : take (1 + n - 1) (drop 1 row) ≡ x
  counted_text =
      let m : 1 + n - 1 ≡ length x = omega (arith, counted_length) in
      rw (m, e) (take-append_seam x rest)

pub word_short : (s : List ℕ) → is_word s ≡ true → length s ≤ 47
unfolding is_word
word_short s h = leb-true (length s) 47 (both_true (leb (length s) 47) (ascii s) h).0

pub phone_from : (p : List ℕ) → length p ≤ 15 → ascii p ≡ true → is_phone p ≡ true
unfolding is_phone
phone_from p l a = rw (le-leb (length p) 15 l, a)

pub phone_short : (ps : List (List ℕ)) → every is_phone ps ≡ true → (i : ℕ) → i < length ps → length (get_or ps i []) ≤ 15
unfolding is_phone
phone_short ps h i l =
    let p = get_or ps i [] in
    leb-true (length p) 15 (both_true (leb (length p) 15) (ascii p) (every_at is_phone ps [] h i l)).0

-- a part of a string below 128 is below 128
pub ascii_take : (n : ℕ) (s : List ℕ) → ascii s ≡ true → ascii (take n s) ≡ true
unfolding ascii every
ascii_take zero s h = refl
ascii_take (suc n) [] h = refl
ascii_take (suc n) (x ∷ xs) h = let b = both_true (low x) (every low xs) h in rw b.0 (ascii_take n xs b.1)

pub ascii_drop : (n : ℕ) (s : List ℕ) → ascii s ≡ true → ascii (drop n s) ≡ true
unfolding ascii every
ascii_drop zero s h = h
ascii_drop (suc n) [] h = refl
ascii_drop (suc n) (x ∷ xs) h = let b = both_true (low x) (every low xs) h in ascii_drop n xs b.1
