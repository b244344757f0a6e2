-- The vowels by name: the names of the rows whose vc is "+", parted by length, and those of two letters by their first.
-- Assumes nothing.
use Rattle.std.specs.Prelude.{ℕ, ◌≡◌, refl, Bool, true, false, not, ◌||◌, List, [], ◌∷◌, map, eqb, length, get_or}
use Rattle.std.proofs.Common.{sym, ap, ◌∙◌, eqb-true}
use Rattle.std.proofs.lemmas.Bool.{eqb-false, not-true}
use Rattle.std.proofs.Math.Bool.{and-true}
use Rattle.texts.specs.Choice.{when◌then◌else◌, cases, both_true, never}
use Rattle.texts.specs.Lists.{every, some, place}
use Rattle.texts.specs.Text.{bytes, same, same_true, same_refl, ne_same, distinct}
use Rattle.phoneset.specs.Phones.{Phone, phones, no_phone, row_of, is_vowel}
use Rattle.phoneset.specs.Rules.{phones_differ}

-- the names of rows
abbrev names : List Phone → List (List ℕ)
names rs = map (λ (r : Phone). r.name) rs

-- a row's vc is "+"
abbrev is_plus : Phone → Bool
is_plus r = eqb (get_or r.features 0 0) 43

-- the names of such rows
unfoldable pub plus : List Phone → List (List ℕ)
plus [] = []
plus (r ∷ rs) = when is_plus r then r.name ∷ plus rs else plus rs

unfoldable pub vowels : List (List ℕ)
vowels = plus phones

-- a name of none of the rows is none of theirs
plus_none : (x : List ℕ) (rs : List Phone) → some (same x) (names rs) ≡ false → some (same x) (plus rs) ≡ false
unfolding plus some
plus_none x [] h = refl
plus_none x (r ∷ rs) h =
    cases (same x r.name)
    (λ e. let z : true ≡ false = rw e at h in never true refl z)
    (λ e.
    let t : some (same x) (names rs) ≡ false = rw e at h in
    let ih = plus_none x rs t in
    cases (is_plus r) (λ p. rw (p, e) ih) (λ p. rw p ih))

-- the vowel's row decides, and it is the only one of its name
listed : (x : List ℕ) (rs : List Phone) → distinct (names rs) ≡ true
    → is_plus (get_or rs (place (λ (r : Phone). same r.name x) rs) no_phone) ≡ some (same x) (plus rs)
unfolding plus some place distinct
listed x [] d = refl
listed x (r ∷ rs) d =
    let b = both_true (not (some (same r.name) (names rs))) (distinct (names rs)) d in
    let ih = listed x rs b.1 in
    cases (same r.name x)
    (λ e.
    let n = same_true r.name x e in
    let z : some (same x) (plus rs) ≡ false = plus_none x rs (rw (sym n) (not-true _ b.0)) in
    let s : same x r.name ≡ true = rw n (same_refl x) in
    cases (is_plus r) (λ p. rw (e, p, s)) (λ p. rw (e, p, z)))
    (λ e.
    let s : same x r.name ≡ false = ne_same x r.name (λ q. never (same r.name x) (rw q (same_refl r.name)) e) in
    cases (is_plus r) (λ p. rw (e, p, s) ih) (λ p. rw (e, p) ih))

pub vowel_listed : (x : List ℕ) → is_vowel x ≡ some (same x) vowels
unfolding is_vowel row_of vowels
vowel_listed x = listed x phones phones_differ

-- those of a length
unfoldable pub of_length : ℕ → List (List ℕ) → List (List ℕ)
of_length n [] = []
of_length n (v ∷ vs) = when eqb (length v) n then v ∷ of_length n vs else of_length n vs

pub by_length : (x : List ℕ) (vs : List (List ℕ)) → some (same x) vs ≡ some (same x) (of_length (length x) vs)
unfolding some of_length
by_length x [] = refl
by_length x (v ∷ vs) =
    let ih = by_length x vs in
    cases (eqb (length v) (length x))
    (λ e. rw (e, ih))
    (λ e. rw (e, ne_same x v (λ q. eqb-false (length v) (length x) e (ap length (sym q)))) ih)

-- "axr" is the only one of three bytes
pub vowel_three : (x : List ℕ) → length x ≡ 3 → is_vowel x ≡ same x (bytes "axr")
unfolding vowels phones plus of_length some
vowel_three x h =
    let e = vowel_listed x ∙ by_length x vowels in
    let z : same x (bytes "axr") || false ≡ same x (bytes "axr") = cases (same x (bytes "axr")) (λ t. rw t) (λ t. rw t) in
    (rw h at e) ∙ z

-- the others have two
abbrev is_two_or_three : List ℕ → Bool
is_two_or_three v = eqb (length v) 2 || eqb (length v) 3

other_length : (x v : List ℕ) → is_two_or_three v ≡ true → (length x ≡ 2 → ⊥) → (length x ≡ 3 → ⊥) → same x v ≡ false
other_length x v h two three =
    ne_same x v
    (λ q.
    cases (eqb (length v) 2)
    (λ e. two (ap length q ∙ eqb-true (length v) 2 e))
    (λ e. let t : eqb (length v) 3 ≡ true = rw e at h in three (ap length q ∙ eqb-true (length v) 3 t)))

no_length : (x : List ℕ) (vs : List (List ℕ)) → every is_two_or_three vs ≡ true → (length x ≡ 2 → ⊥) → (length x ≡ 3 → ⊥) → some (same x) vs ≡ false
unfolding some every
no_length x [] h two three = refl
no_length x (v ∷ vs) h two three =
    let b = both_true (is_two_or_three v) (every is_two_or_three vs) h in
    rw (other_length x v b.0 two three) (no_length x vs b.1 two three)

pub vowel_other : (x : List ℕ) → (length x ≡ 2 → ⊥) → (length x ≡ 3 → ⊥) → is_vowel x ≡ false
unfolding vowels phones plus every
vowel_other x two three = vowel_listed x ∙ no_length x vowels refl two three

-- so one that has not two bytes is "axr"
pub vowel_rest : (x : List ℕ) → (length x ≡ 2 → ⊥) → is_vowel x ≡ same x (bytes "axr")
vowel_rest x two =
    cases (eqb (length x) 3)
    (λ e. vowel_three x (eqb-true (length x) 3 e))
    (λ e.
    let three = eqb-false (length x) 3 e in
    vowel_other x two three ∙ sym (ne_same x (bytes "axr") (λ q. three (ap length q))))

-- those of two letters by their first
abbrev seconds : ℕ → List ℕ
seconds a =
    when eqb a 97 then bytes "aehowxy"
    else when eqb a 101 then bytes "hlmnry"
    else when eqb a 105 then bytes "hy"
    else when eqb a 111 then bytes "wy"
    else when eqb a 117 then bytes "hw"
    else []

pub vowel_two : (a b : ℕ) → is_vowel (a ∷ b ∷ []) ≡ some (eqb b) (seconds a)
unfolding phones plus vowels of_length some same
vowel_two a b =
    vowel_listed (a ∷ b ∷ []) ∙ by_length (a ∷ b ∷ []) vowels
    ∙ cases (eqb a 97)
    (λ e. rw (eqb-true a 97 e) (simp and-true))
    (λ e₁. cases (eqb a 101)
    (λ e. rw (eqb-true a 101 e) (simp and-true))
    (λ e₂. cases (eqb a 105)
    (λ e. rw (eqb-true a 105 e) (simp and-true))
    (λ e₃. cases (eqb a 111)
    (λ e. rw (eqb-true a 111 e) (simp and-true))
    (λ e₄. cases (eqb a 117)
    (λ e. rw (eqb-true a 117 e) (simp and-true))
    (λ e₅. rw (e₁, e₂, e₃, e₄, e₅))))))
