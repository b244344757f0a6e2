-- 01, demand 3, and 02, S-11: for any list of onsets, every syllable of a word with a vowel and without pau holds exactly one vowel,
-- and phones without a vowel and without pau make one syllable. The proof follows the phones; what is kept is that the syllable
-- begun holds a vowel just where `seen` says so, and that where it holds none a vowel is still to come.
-- Assumes nothing.
use Rattle.std.specs.Prelude.{ℕ, ◌≡◌, Bool, true, false, List, [], ◌∷◌, eqb}
use Rattle.texts.specs.Lists.{every}
use Rattle.syllabify.specs.Syllables.{vowels}

-- a syllable with exactly one vowel
abbrev pub one_vowel : List (List ℕ) → Bool
one_vowel g = eqb (vowels g) 1

-- a first syllable that has n vowels, and behind it one each
abbrev pub First : ℕ → List (List (List ℕ)) → Type 0
First n [] = ⊥
First n (g ∷ gs) = (vowels g ≡ n) × (every one_vowel gs ≡ true)

-- the vowels that a syllable still needs
abbrev pub needed : Bool → ℕ
needed true = 0
needed false = 1
