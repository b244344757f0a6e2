-- 01, Phones: the 50 phones with their features, as the Rust has them, and what is a vowel.
-- Assumes nothing.
use Rattle.std.specs.Prelude.{ℕ, ◌-◌, Bool, List, [], ◌∷◌, ◌++◌, eqb, ltb, length, get_or, replicate}
use Prim.Native.String.{String}
use Rattle.texts.specs.Lists.{place}
use Rattle.texts.specs.Text.{bytes, same}

-- a row: a name, and vc, vlng, vheight, vfront, vrnd, ctype, cplace, cvox
pub record Phone : Type 0 where
  pub name : List ℕ
  pub features : List ℕ

p : String → String → Phone
p name features = record { name = bytes name; features = bytes features }

unfoldable pub phones : List Phone
unfolding p
phones =
    p "aa" "+l33-000" ∷
    p "ae" "+s31-000" ∷
    p "ah" "+s22-000" ∷
    p "ao" "+l33+000" ∷
    p "aw" "+d32-000" ∷
    p "ax" "+a22-000" ∷
    p "axr" "+a22-ra+" ∷
    p "ay" "+d32-000" ∷
    p "b" "-0000sl+" ∷
    p "ch" "-0000ap-" ∷
    p "d" "-0000sa+" ∷
    p "dh" "-0000fd+" ∷
    p "dx" "-a000sa+" ∷
    p "eh" "+s21-000" ∷
    p "el" "+s000la+" ∷
    p "em" "+s000nl+" ∷
    p "en" "+s000na+" ∷
    p "er" "+a22-r00" ∷
    p "ey" "+d21-000" ∷
    p "f" "-0000fb-" ∷
    p "g" "-0000sv+" ∷
    p "hh" "-0000fg-" ∷
    p "hv" "-0000fg+" ∷
    p "ih" "+s11-000" ∷
    p "iy" "+l11-000" ∷
    p "jh" "-0000ap+" ∷
    p "k" "-0000sv-" ∷
    p "l" "-0000la+" ∷
    p "m" "-0000nl+" ∷
    p "n" "-0000na+" ∷
    p "nx" "-0000nd+" ∷
    p "ng" "-0000nv+" ∷
    p "ow" "+d23+000" ∷
    p "oy" "+d23+000" ∷
    p "p" "-0000sl-" ∷
    p "r" "-0000ra+" ∷
    p "s" "-0000fa-" ∷
    p "sh" "-0000fp-" ∷
    p "t" "-0000sa-" ∷
    p "th" "-0000fd-" ∷
    p "uh" "+s13+000" ∷
    p "uw" "+l13+000" ∷
    p "v" "-0000fb+" ∷
    p "w" "-0000rl+" ∷
    p "y" "-0000rp+" ∷
    p "z" "-0000fa+" ∷
    p "zh" "-0000fp+" ∷
    p "pau" "-000000-" ∷
    p "h#" "-000000-" ∷
    p "brth" "-000000-" ∷
    []

-- what stands past the rows
abbrev pub no_phone : Phone
no_phone = record { name = []; features = [] }

-- the number of the phone's row, 50 where it has none
unfoldable pub row_of : List ℕ → ℕ
row_of x = place (λ (r : Phone). same r.name x) phones

unfoldable pub is_known : List ℕ → Bool
is_known x = ltb (row_of x) 50

-- a vowel's vc is "+"; an unknown phone is a consonant
unfoldable pub is_vowel : List ℕ → Bool
is_vowel x = eqb (get_or (get_or phones (row_of x) no_phone).features 0 0) 43

-- a row as the code keeps it: a length byte, the name, zeros up to four bytes, the features
unfoldable pub encoded : Phone → List ℕ
encoded r = length r.name ∷ r.name ++ (replicate (4 - length r.name) 0 ++ r.features)
