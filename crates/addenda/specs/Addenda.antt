-- 01, Lookup: the addenda, as the Rust has them.
-- Assumes nothing.
use Rattle.std.specs.Prelude.{ℕ, ◌-◌, ◌*◌, List, [], ◌∷◌, ◌++◌, map, length, get_or, replicate}
use Prim.Native.String.{String}
use Rattle.texts.specs.Text.{bytes}

-- a row: a tag, a word, its phones
pub record Addendum : Type 0 where
  pub tag : ℕ
  pub word : List ℕ
  pub phones : List (List ℕ)

a : String → String → List String → Addendum
a tag word phones = record { tag = get_or (bytes tag) 0 0; word = bytes word; phones = map bytes phones }

unfoldable pub addenda : List Addendum
unfolding a
addenda =
    a "p" "," ([]) ∷
    a "p" "." ([]) ∷
    a "p" "(" ([]) ∷
    a "p" ")" ([]) ∷
    a "p" "[" ([]) ∷
    a "p" "]" ([]) ∷
    a "p" "{" ([]) ∷
    a "p" "}" ([]) ∷
    a "p" ":" ([]) ∷
    a "p" ";" ([]) ∷
    a "p" "?" ([]) ∷
    a "p" "!" ([]) ∷
    a "p" "'" ([]) ∷
    a "p" "`" ([]) ∷
    a "p" "\"" ([]) ∷
    a "p" "-" ([]) ∷
    a "p" "<" ([]) ∷
    a "p" ">" ([]) ∷
    a "n" "@" ("ae1" ∷ "t" ∷ []) ∷
    a "n" "#" ("hh" ∷ "ae1" ∷ "sh" ∷ []) ∷
    a "n" "$" ("d" ∷ "aa1" ∷ "l" ∷ "er" ∷ []) ∷
    a "n" "%" ("p" ∷ "er" ∷ "s" ∷ "eh1" ∷ "n" ∷ "t" ∷ []) ∷
    a "n" "^" ("k" ∷ "eh1" ∷ "r" ∷ "eh1" ∷ "t" ∷ []) ∷
    a "n" "&" ("ae1" ∷ "m" ∷ "p" ∷ "er" ∷ "s" ∷ "ae1" ∷ "n" ∷ "d" ∷ []) ∷
    a "n" "*" ("ae1" ∷ "s" ∷ "t" ∷ "er" ∷ "ih1" ∷ "s" ∷ "k" ∷ []) ∷
    a "n" "|" ("b" ∷ "aa1" ∷ "r" ∷ []) ∷
    a "n" "\\" ("b" ∷ "ae1" ∷ "k" ∷ "s" ∷ "l" ∷ "ae1" ∷ "sh" ∷ []) ∷
    a "n" "/" ("s" ∷ "l" ∷ "ae1" ∷ "sh" ∷ []) ∷
    a "n" "=" ("iy1" ∷ "k" ∷ "w" ∷ "ax" ∷ "l" ∷ "z" ∷ []) ∷
    a "n" "+" ("p" ∷ "l" ∷ "ah1" ∷ "s" ∷ []) ∷
    a "n" "~" ("t" ∷ "ih1" ∷ "l" ∷ "d" ∷ "ax" ∷ []) ∷
    a "n" "_" ("ah1" ∷ "n" ∷ "d" ∷ "er" ∷ "s" ∷ "k" ∷ "ao1" ∷ "r" ∷ []) ∷
    a "s" "'s" ("z" ∷ []) ∷
    a "n" "im" ("ay1" ∷ "m" ∷ []) ∷
    a "v" "doesnt" ("d" ∷ "ah1" ∷ "z" ∷ "n" ∷ "t" ∷ []) ∷
    a "v" "youll" ("y" ∷ "uw1" ∷ "l" ∷ []) ∷
    a "v" "havent" ("hh" ∷ "ae1" ∷ "v" ∷ "ax" ∷ "n" ∷ "t" ∷ []) ∷
    a "n" "in" ("ih" ∷ "n" ∷ []) ∷
    a "n" "to" ("t" ∷ "ax" ∷ []) ∷
    a "n" "email" ("iy1" ∷ "m" ∷ "ey1" ∷ "l" ∷ []) ∷
    a "n" "shit" ("sh" ∷ "ih1" ∷ "t" ∷ []) ∷
    a "0" "_a" ("ey" ∷ []) ∷
    []

-- what stands past the rows
abbrev pub no_addendum : Addendum
no_addendum = record { tag = 0; word = []; phones = [] }

-- a text behind its length, with zeros up to a width
unfoldable pub padded : ℕ → List ℕ → List ℕ
padded width x = length x ∷ x ++ replicate (width - length x) 0

-- phones in cells of a length byte and three bytes
unfoldable pub cells : List (List ℕ) → List ℕ
cells [] = []
cells (x ∷ xs) = padded 3 x ++ cells xs

-- a row as the code keeps it: the tag, the word, the count of phones, their cells, zeros up to eight cells
unfoldable pub encoded : Addendum → List ℕ
encoded r = r.tag ∷ padded 6 r.word ++ length r.phones ∷ cells r.phones ++ replicate (32 - 4 * length r.phones) 0
