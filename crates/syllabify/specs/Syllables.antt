-- 01, Syllables: the marks after the phones of a list, for any list of onsets.
-- Assumes nothing.
use Rattle.std.specs.Prelude.{ℕ, ◌+◌, ◌≤◌, ◌<◌, ◌≡◌, Option, None, Some, Bool, true, false, not, ◌||◌, List, [], ◌∷◌, ◌++◌, leb, eqb, length, take}
use Rattle.texts.specs.Choice.{when◌then◌else◌, bit}
use Rattle.texts.specs.Lists.{place}
use Rattle.texts.specs.Text.{bytes, same}
use Rattle.phoneset.specs.Phones.{is_vowel}
use Rattle.onsets.specs.Onsets.{is_onset}

abbrev pub is_pau : List ℕ → Bool
is_pau x = same x (bytes "pau")

-- phones joined
unfoldable pub joined : List (List ℕ) → List ℕ
joined [] = []
joined (x ∷ xs) = x ++ joined xs

-- whether a syllable that has its vowel ends before `rest`, whose first phone is `next` and whose first vowel stands at v
abbrev pub opens : List (List ℕ) → List ℕ → List (List ℕ) → ℕ → Bool
opens onsets next rest v =
    when eqb v 0 then true
    else when same next (bytes "ng") then false
    else when eqb v 1 then true
    else when leb v 3 then is_onset onsets (joined (take v rest))
    else false

-- whether a syllable ends before `rest`; `seen` tells whether it has its vowel, and v is the count of `rest` where no vowel is left
abbrev pub cut_at : List (List ℕ) → Bool → List ℕ → List (List ℕ) → ℕ → Bool
cut_at onsets seen next rest v =
    when is_pau next then true
    else when leb (length rest) v then false
    else when not seen then false
    else opens onsets next rest v

-- 01's rules in their order: the first that fits decides
unfoldable pub cut : List (List ℕ) → Bool → List (List ℕ) → Bool
cut onsets seen [] = true
cut onsets seen (next ∷ more) = cut_at onsets seen next (next ∷ more) (place is_vowel (next ∷ more))

-- the marks of a list: 1 where a syllable ends
unfoldable pub marks : List (List ℕ) → Bool → List (List ℕ) → List ℕ
marks onsets seen [] = []
marks onsets seen (x ∷ xs) =
    let s = seen || is_vowel x in
    let m = cut onsets s xs in
    bit m ∷ marks onsets (when m then false else s) xs

-- a phone put in front of the first syllable
abbrev pub on_first : List ℕ → List (List (List ℕ)) → List (List (List ℕ))
on_first x [] = (x ∷ []) ∷ []
on_first x (g ∷ gs) = (x ∷ g) ∷ gs

-- the syllables: the phones cut after each place marked 1
unfoldable pub syllables : List ℕ → List (List ℕ) → List (List (List ℕ))
syllables [] xs = []
syllables (m ∷ ms) [] = []
syllables (m ∷ ms) (x ∷ xs) = when eqb m 1 then (x ∷ []) ∷ syllables ms xs else on_first x (syllables ms xs)

-- how many phones are vowels
unfoldable pub vowels : List (List ℕ) → ℕ
vowels [] = 0
vowels (x ∷ xs) = bit (is_vowel x) + vowels xs

-- what joining phones at the front of a buffer leaves
pub record Joined (text out : List ℕ) (n : ℕ) : Type 0 where
  pub inside : n ≤ length out
  pub front : take n out ≡ text

-- the place of the first element at which a test passes, or that there is none
abbrev pub IsFirst : (List ℕ → Bool) → List (List ℕ) → Option ℕ → Type 0
IsFirst f l None = length l ≤ place f l
IsFirst f l (Some i) = (i ≡ place f l) × (i < length l)
