-- Theorems about `specs/OneVowel.antt`: 01, demand 3, and 02, S-11: for any list of onsets, every syllable of a word with a vowel and without pau holds exactly one vowel,
-- and phones without a vowel and without pau make one syllable. The proof follows the phones; what is kept is that the syllable
-- begun holds a vowel just where `seen` says so, and that where it holds none a vowel is still to come.
-- Assumes nothing.
use Rattle.std.specs.Prelude.{ℕ, suc, ◌+◌, ◌<◌, ◌≡◌, Bool, true, false, ◌||◌, List, [], ◌∷◌, leb, length}
use Rattle.std.proofs.Common.{arith, le_of_suc-le-suc, ap, ◌∙◌}
use Rattle.std.proofs.Math.Path.{refl}
use Rattle.std.proofs.Math.Dec.{leb-suc-zero}
use borrow.Author.Tests.{le-leb, leb-false, eq-eqb}
use Rattle.texts.specs.Choice.{when◌then◌else◌, bit, cases, never, is_false}
use Rattle.texts.specs.Lists.{every, some, place}
use Rattle.phoneset.specs.Phones.{is_vowel}
use Rattle.syllabify.specs.Syllables.{is_pau, cut, marks, syllables, on_first, vowels}
use Rattle.syllabify.specs.OneVowel.{one_vowel, First, needed}

same_branches : {A : Type 0} (b : Bool) (a : A) → (when b then a else a) ≡ a
same_branches true a = refl
same_branches false a = refl

-- a list has a vowel where its first vowel's place is within it
some_vowel : (xs : List (List ℕ)) → place is_vowel xs < length xs → 0 < vowels xs
unfolding place vowels
some_vowel [] h = h
some_vowel (x ∷ xs) h =
    let ih = some_vowel xs in
    cases (is_vowel x) (λ e. rw e (omega arith)) (λ e. let z = ih (le_of_suc-le-suc (rw e at h)) in rw e (omega arith))

no_vowel : (xs : List (List ℕ)) → vowels xs ≡ 0 → place is_vowel xs ≡ length xs
unfolding place vowels
no_vowel [] h = refl
no_vowel (x ∷ xs) h =
    let ih = no_vowel xs in
    cases (is_vowel x) (λ e. let z = rw e at h in absurd (omega arith)) (λ e. let z = rw e at h in rw e (ap suc (ih (omega arith))))

-- without pau at the front, and behind it
no_pau : (x : List ℕ) (xs : List (List ℕ)) → some is_pau (x ∷ xs) ≡ false → (is_pau x ≡ false) × (some is_pau xs ≡ false)
unfolding some
no_pau x xs h = cases (is_pau x) (λ e. never true refl (rw e at h)) (λ e. (e, rw e at h))

module _ (onsets : List (List ℕ)) (y : List ℕ) (ys : List (List ℕ)) (np : is_pau y ≡ false) where
  cut_none : cut onsets false (y ∷ ys) ≡ false
  unfolding cut
  cut_none = rw np (same_branches (leb (length (y ∷ ys)) (place is_vowel (y ∷ ys))) false)

  cut_next : is_vowel y ≡ true → cut onsets true (y ∷ ys) ≡ true
  unfolding cut place
  cut_next e = rw (np, e, leb-suc-zero)

  cut_vowel : (s : Bool) → cut onsets s (y ∷ ys) ≡ true → place is_vowel (y ∷ ys) < length (y ∷ ys)
  unfolding cut
  cut_vowel s h =
      cases (leb (length (y ∷ ys)) (place is_vowel (y ∷ ys)))
      (λ e. never _ h (rw (np, e) refl))
      (λ e. leb-false _ _ e)

  cut_last : (s : Bool) → place is_vowel (y ∷ ys) ≡ length (y ∷ ys) → cut onsets s (y ∷ ys) ≡ false
  unfolding cut
  cut_last s e = let z = le-leb (length (y ∷ ys)) (place is_vowel (y ∷ ys)) (omega arith) in rw (np, z) refl

module _ (onsets : List (List ℕ)) (seen : Bool) (x : List ℕ) (xs : List (List ℕ)) (s : Bool) (es : (seen || is_vowel x) ≡ s) where
  marks_yes : cut onsets s xs ≡ true → syllables (marks onsets seen (x ∷ xs)) (x ∷ xs) ≡ (x ∷ []) ∷ syllables (marks onsets false xs) xs
  unfolding marks syllables
  marks_yes em = rw (es, em)

  marks_no : cut onsets s xs ≡ false → syllables (marks onsets seen (x ∷ xs)) (x ∷ xs) ≡ on_first x (syllables (marks onsets s xs) xs)
  unfolding marks syllables
  marks_no em = rw (es, em)

first_one : (gs : List (List (List ℕ))) → First 1 gs → every one_vowel gs ≡ true
unfolding every
first_one [] h = refl
first_one (g ∷ gs) h = rw (eq-eqb (vowels g) 1 h.0) h.1

on_first_lem : (x : List ℕ) (b : Bool) (n : ℕ) (gs : List (List (List ℕ))) → is_vowel x ≡ b → First n gs → First (bit b + n) (on_first x gs)
unfolding vowels
on_first_lem x b n [] e h = absurd h
on_first_lem x b n (g ∷ gs) e h = (rw (e, h.0), h.1)

-- one phone more in front
step : (onsets : List (List ℕ)) (x y : List ℕ) (ys : List (List ℕ)) (seen : Bool) → is_pau y ≡ false
    → (seen ≡ true → is_vowel x ≡ false) → (seen ≡ false → 0 < vowels (x ∷ y ∷ ys))
    → ((s : Bool) → (s ≡ true → is_vowel y ≡ false) → (s ≡ false → 0 < vowels (y ∷ ys)) → First (needed s) (syllables (marks onsets s (y ∷ ys)) (y ∷ ys)))
    → First (needed seen) (syllables (marks onsets seen (x ∷ y ∷ ys)) (x ∷ y ∷ ys))
unfolding vowels
step onsets x y ys seen np hv hs ih = go seen hv hs
  where
    -- the syllable has its vowel
    full : (seen : Bool) (b : Bool) → is_vowel x ≡ b → (seen || is_vowel x) ≡ true → bit b + 0 ≡ needed seen
        → First (needed seen) (syllables (marks onsets seen (x ∷ y ∷ ys)) (x ∷ y ∷ ys))
    full seen b eb es en =
        cases (cut onsets true (y ∷ ys))
        (λ m. rw (marks_yes onsets seen x (y ∷ ys) true es m) (
          rw (eb, en),
          first_one (syllables (marks onsets false (y ∷ ys)) (y ∷ ys))
              (ih false (λ f. never false f refl) (λ f. some_vowel (y ∷ ys) (cut_vowel onsets y ys np true m))),
        ))
        (λ m. rw (marks_no onsets seen x (y ∷ ys) true es m, ← en)
        (on_first_lem x b 0 (syllables (marks onsets true (y ∷ ys)) (y ∷ ys)) eb
        (ih true (λ f. is_false (is_vowel y) (λ v. never _ (cut_next onsets y ys np v) m)) (λ f. never true refl f))))

    go : (seen : Bool) → (seen ≡ true → is_vowel x ≡ false) → (seen ≡ false → 0 < vowels (x ∷ y ∷ ys))
        → First (needed seen) (syllables (marks onsets seen (x ∷ y ∷ ys)) (x ∷ y ∷ ys))
    go true hv hs = full true false (hv refl) refl refl
    go false hv hs =
        cases (is_vowel x)
        (λ e. full false true e (rw e) refl)
        (λ e. rw (marks_no onsets false x (y ∷ ys) false (rw e) (cut_none onsets y ys np))
        (on_first_lem x false 1 (syllables (marks onsets false (y ∷ ys)) (y ∷ ys)) e
        (ih false (λ f. never false f refl) (λ f. let z = rw e at (hs refl) in omega arith))))

last : (onsets : List (List ℕ)) (x : List ℕ) (seen : Bool) → (seen ≡ true → is_vowel x ≡ false) → (seen ≡ false → 0 < vowels (x ∷ []))
    → First (needed seen) (syllables (marks onsets seen (x ∷ [])) (x ∷ []))
unfolding vowels marks syllables cut every
last onsets x true hv hs = (rw (hv refl), refl)
last onsets x false hv hs = (cases (is_vowel x) (λ e. rw e) (λ e. let z = rw e at (hs refl) in absurd (omega arith)), refl)

all : (onsets : List (List ℕ)) (xs : List (List ℕ)) (x : List ℕ) (seen : Bool) → some is_pau (x ∷ xs) ≡ false
    → (seen ≡ true → is_vowel x ≡ false) → (seen ≡ false → 0 < vowels (x ∷ xs))
    → First (needed seen) (syllables (marks onsets seen (x ∷ xs)) (x ∷ xs))
all onsets [] x seen np hv hs = last onsets x seen hv hs
all onsets (y ∷ ys) x seen np hv hs =
    let ih = all onsets ys y in
    let rest = (no_pau x (y ∷ ys) np).1 in
    step onsets x y ys seen (no_pau y ys rest).0 hv hs (λ s. ih s rest)

-- a word with a vowel and without pau: one vowel in every syllable
pub one_vowel_lem : (onsets xs : List (List ℕ)) → 0 < vowels xs → some is_pau xs ≡ false → every one_vowel (syllables (marks onsets false xs) xs) ≡ true
unfolding marks syllables every
one_vowel_lem onsets [] h np = refl
one_vowel_lem onsets (x ∷ xs) h np = first_one (syllables (marks onsets false (x ∷ xs)) (x ∷ xs)) (all onsets xs x false np (λ f. never false f refl) (λ f. h))

-- phones, but no vowel and no pau: one syllable
pub one_syllable_lem : (onsets : List (List ℕ)) (x : List ℕ) (xs : List (List ℕ)) (seen : Bool) → vowels (x ∷ xs) ≡ 0 → some is_pau (x ∷ xs) ≡ false
    → syllables (marks onsets seen (x ∷ xs)) (x ∷ xs) ≡ (x ∷ xs) ∷ []
unfolding vowels
one_syllable_lem onsets x [] seen h np = marks_yes onsets seen x [] _ refl (unfold cut in refl) ∙ (unfold marks syllables in refl)
one_syllable_lem onsets x (y ∷ ys) seen h np =
    let s = seen || is_vowel x in
    let z : vowels (y ∷ ys) ≡ 0 = omega arith in
    let rest = (no_pau x (y ∷ ys) np).1 in
    marks_no onsets seen x (y ∷ ys) s refl (cut_last onsets y ys (no_pau y ys rest).0 s (no_vowel (y ∷ ys) z))
    ∙ ap (on_first x) (one_syllable_lem onsets y ys s z rest)
