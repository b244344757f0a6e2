-- Every part of a text below 128 is below 128: its lines, their content, fields and stripped words.
-- Assumes nothing.
use Rattle.std.specs.Prelude.{ℕ, zero, suc, ◌+◌, ◌≡◌, refl, true, List, [], ◌∷◌, eqb, length, drop}
use Rattle.texts.specs.Choice.{both_true, cases}
use Rattle.texts.specs.Lists.{every, place}
use Rattle.texts.specs.Text.{ascii, blank, is, low, ascii_take, ascii_drop}
use Rattle.lines.specs.Lines.{first_line, after_line, lines_of, lines, content, ink, inked, field, after_field, unquoted, on_tail, open_end, stripped}

pub ascii_line : (t : List ℕ) → ascii t ≡ true → ascii (first_line t) ≡ true
unfolding first_line
ascii_line t h = ascii_take (place (is 10) t) t h

pub ascii_content : (l : List ℕ) → ascii l ≡ true → ascii (content l) ≡ true
unfolding content
ascii_content l h = ascii_take (place (is 35) l) l h

pub ascii_field : (s : List ℕ) → ascii s ≡ true → ascii (field s) ≡ true
unfolding field inked
ascii_field s h = ascii_take (place blank (inked s)) (inked s) (ascii_drop (place ink s) s h)

pub ascii_after : (s : List ℕ) → ascii s ≡ true → ascii (after_field s) ≡ true
unfolding after_field inked
ascii_after s h = ascii_drop (place blank (inked s)) (inked s) (ascii_drop (place ink s) s h)

ascii_tail : (x : ℕ) (s : List ℕ) → low x ≡ true → ascii s ≡ true → ascii (on_tail x s) ≡ true
unfolding on_tail ascii every
ascii_tail x [] l h = cases (eqb x 34) (λ e. rw e) (λ e. rw (e, l))
ascii_tail x (y ∷ ys) l h = rw l h

ascii_open : (s : List ℕ) → ascii s ≡ true → ascii (open_end s) ≡ true
unfolding open_end ascii every
ascii_open [] h = refl
ascii_open (x ∷ xs) h = let b = both_true (low x) (every low xs) h in ascii_tail x (open_end xs) b.0 (ascii_open xs b.1)

pub ascii_stripped : (w : List ℕ) → ascii w ≡ true → ascii (stripped w) ≡ true
unfolding stripped
ascii_stripped w h = ascii_open (drop (place unquoted w) w) (ascii_drop (place unquoted w) w h)

pub ascii_behind : (t : List ℕ) → ascii t ≡ true → ascii (after_line t) ≡ true
unfolding after_line
ascii_behind t h = ascii_drop (place (is 10) t + 1) t h

lines_low : (n : ℕ) (t : List ℕ) → ascii t ≡ true → every ascii (lines_of n t) ≡ true
unfolding lines_of every
lines_low zero t h = refl
lines_low (suc n) [] h = refl
lines_low (suc n) (x ∷ xs) h = rw (ascii_line (x ∷ xs) h) (lines_low n (after_line (x ∷ xs)) (ascii_behind (x ∷ xs) h))

pub ascii_lines : (t : List ℕ) → ascii t ≡ true → every ascii (lines t) ≡ true
unfolding lines
ascii_lines t h = lines_low (length t) t h
