-- A word as it is handed over: its text, its source, its bare phones, and for each of these a byte, the stress of the syllable that ends there,
-- 0 where none ends.
-- Assumes nothing.
use Rattle.std.specs.Prelude.{ℕ, ◌-◌, ◌<◌, ◌≢◌, List, [], ◌∷◌, eqb, length, get_or}
use Rattle.texts.specs.Choice.{when◌then◌else◌}
use Rattle.utterance_spec.specs.Tree.{Syllable, Word}

-- a phone put in front of the first syllable
abbrev pub on_head : List ℕ → List Syllable → List Syllable
on_head p [] = record { stress = 48; phones = p ∷ [] } ∷ []
on_head p (y ∷ ys) = record { stress = y.stress; phones = p ∷ y.phones } ∷ ys

unfoldable pub grouped : List ℕ → List (List ℕ) → List Syllable
grouped [] ps = []
grouped (m ∷ ms) [] = []
grouped (m ∷ ms) (p ∷ ps) = when eqb m 0 then on_head p (grouped ms ps) else record { stress = m; phones = p ∷ [] } ∷ grouped ms ps

-- the word
abbrev pub cut_word : List ℕ → ℕ → List ℕ → List (List ℕ) → Word
cut_word text source cuts ps = record { text = text; source = source; syllables = grouped cuts ps }

-- the last phone ends a syllable
abbrev pub Ended : List ℕ → Type 0
Ended cuts = 0 < length cuts → get_or cuts (length cuts - 1) 0 ≢ 0
