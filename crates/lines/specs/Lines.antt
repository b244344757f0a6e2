-- 01, Lookup: Adding. The lines of a text, what stands before a "#", fields parted by blanks, and a word without its outer quote marks.
-- Assumes nothing.
use Rattle.std.specs.Prelude.{ℕ, zero, suc, ◌+◌, ◌-◌, ◌<◌, ◌≡◌, refl, Bool, not, List, [], ◌∷◌, ◌++◌, eqb, leb, length, get_or, take, drop}
use Rattle.std.proofs.Common.{arith, sym, ap, ◌∙◌, take-suc, ne_eqb}
use Rattle.std.proofs.Math.Seq.{take-length}
use Rattle.texts.specs.Choice.{when◌then◌else◌}
use Rattle.texts.specs.Lists.{place}
use Rattle.texts.specs.Text.{blank, is}

-- lines end at byte 10: the first, and what stands behind its end
unfoldable pub first_line : List ℕ → List ℕ
first_line t = take (place (is 10) t) t

unfoldable pub after_line : List ℕ → List ℕ
after_line t = drop (place (is 10) t + 1) t

-- the lines of a text, of at most n
unfoldable pub lines_of : ℕ → List ℕ → List (List ℕ)
lines_of zero t = []
lines_of (suc n) [] = []
lines_of (suc n) (x ∷ xs) = first_line (x ∷ xs) ∷ lines_of n (after_line (x ∷ xs))

unfoldable pub lines : List ℕ → List (List ℕ)
lines t = lines_of (length t) t

-- a line cut at "#"
unfoldable pub content : List ℕ → List ℕ
content l = take (place (is 35) l) l

-- a byte that is no blank
unfoldable pub ink : ℕ → Bool
ink b = not (blank b)

-- from the first field on; the field, and what stands behind it
unfoldable pub inked : List ℕ → List ℕ
inked s = drop (place ink s) s

unfoldable pub field : List ℕ → List ℕ
field s = take (place blank (inked s)) (inked s)

unfoldable pub after_field : List ℕ → List ℕ
after_field s = drop (place blank (inked s)) (inked s)

-- there is nothing but blanks
unfoldable pub is_empty : List ℕ → Bool
is_empty s = leb (length s) (place ink s)

-- the fields, of at most n
unfoldable pub fields_of : ℕ → List ℕ → List (List ℕ)
fields_of zero s = []
fields_of (suc n) s = when is_empty s then [] else field s ∷ fields_of n (after_field s)

unfoldable pub fields : List ℕ → List (List ℕ)
fields s = fields_of (length s) s

-- a byte that is no quote mark
unfoldable pub unquoted : ℕ → Bool
unquoted b = not (eqb b 34)

-- a word without the quote marks at its end
unfoldable pub on_tail : ℕ → List ℕ → List ℕ
on_tail x [] = when eqb x 34 then [] else x ∷ []
on_tail x (y ∷ ys) = x ∷ y ∷ ys

unfoldable pub open_end : List ℕ → List ℕ
open_end [] = []
open_end (x ∷ xs) = on_tail x (open_end xs)

-- stripped of all outer quote marks
unfoldable pub stripped : List ℕ → List ℕ
stripped w = open_end (drop (place unquoted w) w)

-- a last quote mark goes, and any other last byte ends the word
pub end_quote : (xs : List ℕ) → open_end (xs ++ (34 ∷ [])) ≡ open_end xs
unfolding open_end on_tail
end_quote [] = refl
end_quote (x ∷ xs) = ap (on_tail x) (end_quote xs)

pub end_other : (xs : List ℕ) (y : ℕ) → (y ≡ 34 → ⊥) → open_end (xs ++ (y ∷ [])) ≡ xs ++ (y ∷ [])
unfolding open_end on_tail
end_other [] y ne = rw (ne_eqb y 34 ne)
end_other (x ∷ xs) y ne = let ih = end_other xs y ne in ap (on_tail x) ih ∙ more x xs y
  where
    more : (x : ℕ) (xs : List ℕ) (y : ℕ) → on_tail x (xs ++ (y ∷ [])) ≡ x ∷ xs ++ (y ∷ [])
    more x [] y = refl
    more x (z ∷ zs) y = refl

-- a word that has a byte, by its last byte; and one that has none
module _ (w : List ℕ) (some : 0 < length w) where
  last_byte_lem : w ≡ take (length w - 1) w ++ (get_or w (length w - 1) 0 ∷ [])
  last_byte_lem =
      let e : suc (length w - 1) ≡ length w = omega arith in
      sym (take-length w) ∙ ap (λ (k : ℕ). take k w) (sym e) ∙ take-suc w (length w - 1) 0 (omega arith)

  pub open_turn : get_or w (length w - 1) 0 ≡ 34 → open_end w ≡ open_end (take (length w - 1) w)
  open_turn e = ap open_end (last_byte_lem ∙ ap (λ (b : ℕ). take (length w - 1) w ++ (b ∷ [])) e) ∙ end_quote (take (length w - 1) w)

  pub open_stop : (get_or w (length w - 1) 0 ≡ 34 → ⊥) → open_end w ≡ w
  open_stop ne = ap open_end last_byte_lem ∙ end_other (take (length w - 1) w) (get_or w (length w - 1) 0) ne ∙ sym last_byte_lem

pub open_none : (w : List ℕ) → length w < 1 → open_end w ≡ w
unfolding open_end
open_none [] h = refl
open_none (x ∷ xs) h = absurd (omega arith)
