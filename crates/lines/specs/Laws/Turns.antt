-- The lines of a text and the fields of a line, told by the first one and the rest.
-- Assumes nothing.
use Rattle.std.specs.Prelude.{ℕ, zero, suc, ◌+◌, ◌-◌, ◌≤◌, ◌<◌, ◌≡◌, refl, true, false, List, [], ◌∷◌, length}
use Rattle.std.proofs.Common.{not-suc-le-zero, le_of_suc-le-suc, arith, sym, ap, ◌∙◌, length-drop, leb-false}
use Rattle.texts.specs.Choice.{cases}
use Rattle.texts.specs.Lists.{place, place_le}
use Rattle.texts.specs.Text.{blank, is}
use Rattle.lines.specs.Lines.{first_line, after_line, lines_of, lines, ink, inked, field, after_field, is_empty, fields_of, fields}

-- behind a line, and behind a field, there is less
pub shorter_line : (x : ℕ) (xs : List ℕ) → length (after_line (x ∷ xs)) ≤ length xs
unfolding after_line
shorter_line x xs = let l = length-drop (place (is 10) (x ∷ xs) + 1) (x ∷ xs) in omega arith

-- a field that is there has a byte
ink_first : (s : List ℕ) → place ink s < length s → 0 < place blank (inked s)
unfolding inked place ink
ink_first [] h = absurd (not-suc-le-zero h)
ink_first (x ∷ xs) h =
    cases (blank x)
    (λ e. let k : suc (suc (place ink xs)) ≤ suc (length xs) = rw e at h in let ih = ink_first xs (le_of_suc-le-suc k) in rw e ih)
    (λ e. rw (e, e) (omega arith))

pub shorter_field : (s : List ℕ) → is_empty s ≡ false → length (after_field s) < length s
unfolding is_empty after_field inked
shorter_field s h =
    let l = leb-false (length s) (place ink s) h in
    let f = ink_first s l in
    let d = length-drop (place ink s) s in
    let e = length-drop (place blank (inked s)) (inked s) in
    let g = place_le blank (inked s) in
    omega arith

-- more fuel than bytes changes nothing
enough_lines : (n m : ℕ) (t : List ℕ) → length t ≤ n → length t ≤ m → lines_of n t ≡ lines_of m t
unfolding lines_of
enough_lines zero zero [] h k = refl
enough_lines zero (suc m) [] h k = refl
enough_lines (suc n) zero [] h k = refl
enough_lines (suc n) (suc m) [] h k = refl
enough_lines zero m (x ∷ xs) h k = absurd (not-suc-le-zero h)
enough_lines (suc n) zero (x ∷ xs) h k = absurd (not-suc-le-zero k)
enough_lines (suc n) (suc m) (x ∷ xs) h k =
    let l = shorter_line x xs in
    ap (λ (r : List (List ℕ)). first_line (x ∷ xs) ∷ r) (enough_lines n m (after_line (x ∷ xs)) (omega arith) (omega arith))

no_fields : (n : ℕ) (s : List ℕ) → length s ≤ 0 → fields_of n s ≡ []
unfolding fields_of is_empty place
no_fields zero s h = refl
no_fields (suc n) [] h = refl
no_fields (suc n) (x ∷ xs) h = absurd (not-suc-le-zero h)

enough_fields : (n m : ℕ) (s : List ℕ) → length s ≤ n → length s ≤ m → fields_of n s ≡ fields_of m s
unfolding fields_of
enough_fields zero m s h k = sym (no_fields m s h)
enough_fields (suc n) zero s h k = no_fields (suc n) s k
enough_fields (suc n) (suc m) s h k =
    cases (is_empty s)
    (λ e. rw e)
    (λ e. let l = shorter_field s e in
    let ih = enough_fields n m (after_field s) (omega arith) (omega arith) in
    rw (e, ih))

-- the lines: the first, and those behind it
pub lines_more : (x : ℕ) (xs : List ℕ) → lines (x ∷ xs) ≡ first_line (x ∷ xs) ∷ lines (after_line (x ∷ xs))
unfolding lines lines_of
lines_more x xs =
    ap (λ (r : List (List ℕ)). first_line (x ∷ xs) ∷ r) (enough_lines (length xs) (length (after_line (x ∷ xs))) (after_line (x ∷ xs)) (shorter_line x xs) (omega arith))

-- the same of a text that is empty or not
pub lines_none : (t : List ℕ) → length t ≤ 0 → lines t ≡ []
unfolding lines lines_of
lines_none [] h = refl
lines_none (x ∷ xs) h = absurd (not-suc-le-zero h)

pub lines_first : (t : List ℕ) → 0 < length t → lines t ≡ first_line t ∷ lines (after_line t)
lines_first [] h = absurd (not-suc-le-zero h)
lines_first (x ∷ xs) h = lines_more x xs

pub line_shrinks : (t : List ℕ) → 0 < length t → length (after_line t) < length t
line_shrinks [] h = absurd (not-suc-le-zero h)
line_shrinks (x ∷ xs) h = let l = shorter_line x xs in omega arith

-- the fields: none, or the first and those behind it
pub fields_none : (s : List ℕ) → is_empty s ≡ true → fields s ≡ []
unfolding fields fields_of
fields_none s e = go (length s)
  where
    go : (n : ℕ) → fields_of n s ≡ []
    go zero = refl
    go (suc n) = rw e

pub fields_more : (s : List ℕ) → is_empty s ≡ false → fields s ≡ field s ∷ fields (after_field s)
unfolding fields fields_of
fields_more s e =
    let l = shorter_field s e in
    let n : length s ≡ suc (length s - 1) = omega arith in
    ap (λ (k : ℕ). fields_of k s) n ∙ rw e (ap (λ (r : List (List ℕ)). field s ∷ r) (enough_fields (length s - 1) (length (after_field s)) (after_field s) (omega arith) (omega arith)))

-- the laws of an iterator over the lines, and of one over the fields
pub ruleset line_turns = (lines_none, lines_first, line_shrinks)

pub ruleset field_turns = (fields_none, fields_more, shorter_field)
