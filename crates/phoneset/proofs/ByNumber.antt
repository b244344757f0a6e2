-- Names of two letters as numbers: laws that nothing cites since the letters are matched themselves. Assumes nothing.
use Rattle.std.specs.Prelude.{ℕ, ◌+◌, ◌*◌, ◌<◌, ◌≡◌, refl, Bool, true, ◌&&◌, List, [], ◌∷◌, map, eqb, ltb, length, get_or}
use Rattle.std.proofs.Common.{arith, ◌∙◌, eqb-true, eq-eqb, ne_eqb, ltb-true}
use Rattle.std.proofs.lemmas.Bool.{eqb-false}
use Rattle.texts.specs.Choice.{cases, both_true}
use Rattle.texts.specs.Lists.{every, some}
use Rattle.texts.specs.Text.{same}
use Rattle.phoneset.specs.Phones.{phones, is_vowel}
use Rattle.phoneset.specs.Laws.Vowels.{plus, vowels, of_length, vowel_listed, by_length}

-- a text of two bytes is its bytes
pub two_bytes : (x : List ℕ) → length x ≡ 2 → x ≡ get_or x 0 0 ∷ get_or x 1 0 ∷ []
two_bytes [] l = absurd (omega arith)
two_bytes (a ∷ []) l = absurd (omega arith)
two_bytes (a ∷ b ∷ []) l = refl
two_bytes (a ∷ b ∷ c ∷ x) l = absurd (omega arith)

-- two letters as a number, the first letter its low byte
unfoldable pub number : List ℕ → ℕ
number v = get_or v 0 0 + 256 * get_or v 1 0

-- a name of two bytes
abbrev is_pair : List ℕ → Bool
is_pair v = eqb (length v) 2 && ltb (get_or v 0 0) 256

-- such a name is two letters if it has their number
same_number : (a b : ℕ) (v : List ℕ) → a < 256 → length v ≡ 2 → get_or v 0 0 < 256 → same (a ∷ b ∷ []) v ≡ eqb (a + 256 * b) (number v)
unfolding same number
same_number a b [] la l lx = absurd (omega arith)
same_number a b (x ∷ []) la l lx = absurd (omega arith)
same_number a b (x ∷ y ∷ z ∷ v) la l lx = absurd (omega arith)
same_number a b (x ∷ y ∷ []) la l lx =
    cases (eqb (a + 256 * b) (x + 256 * y))
    (λ e.
    let q = eqb-true (a + 256 * b) (x + 256 * y) e in
    let qa : a ≡ x = omega arith in
    let qb : b ≡ y = omega arith in
    rw (e, eq-eqb a x qa, eq-eqb b y qb))
    (λ e.
    let n = eqb-false (a + 256 * b) (x + 256 * y) e in
    cases (eqb a x)
    (λ s. let qa = eqb-true a x s in rw (e, s, ne_eqb b y (λ qb. n (omega arith))))
    (λ s. rw (e, s)))

by_number : (a b : ℕ) (vs : List (List ℕ)) → a < 256 → every is_pair vs ≡ true → some (same (a ∷ b ∷ [])) vs ≡ some (eqb (a + 256 * b)) (map number vs)
unfolding some every
by_number a b [] la h = refl
by_number a b (v ∷ vs) la h =
    let t = both_true (is_pair v) (every is_pair vs) h in
    let w = both_true (eqb (length v) 2) (ltb (get_or v 0 0) 256) t.0 in
    let e = same_number a b v la (eqb-true (length v) 2 w.0) (ltb-true (get_or v 0 0) 256 w.1) in
    rw (e, by_number a b vs la t.1)

-- the numbers of the vowels of two letters
unfoldable pub pairs : List ℕ
pairs = map number (of_length 2 vowels)

pub vowel_two : (a b : ℕ) → a < 256 → is_vowel (a ∷ b ∷ []) ≡ some (eqb (a + 256 * b)) pairs
unfolding pairs vowels phones plus of_length every
vowel_two a b la = vowel_listed (a ∷ b ∷ []) ∙ by_length (a ∷ b ∷ []) vowels ∙ by_number a b (of_length 2 vowels) la refl
