-- 01, Store and sheet, and 02, S-6 and S-9: the words of a sheet, their syllables and phones: what they say, which items they are, and how these are
-- linked. `S` gives each item.
-- Assumes nothing.
use Rattle.std.specs.Prelude.{ℕ, ◌≤◌, ◌≡◌, true, List, [], ◌∷◌, ◌++◌, map, eqb, length}
use Rattle.texts.specs.Choice.{when◌then◌else◌}
use Rattle.records.specs.Chain.{All, Linked, chain, end_of}
use Rattle.versions.specs.Versions.{is_stress}
use Rattle.items_spec.specs.Item.{Item}

-- what is read: a word with its source and its syllables, each with its stress and its phones
pub record Syllable : Type 0 where
  pub stress : ℕ
  pub phones : List (List ℕ)

pub record Word : Type 0 where
  pub text : List ℕ
  pub source : ℕ
  pub syllables : List Syllable

-- what is read of a whole sheet (02, S-9): its version, byte 14 of item 0, which is 0 as yet, and its words
pub record Page : Type 0 where
  pub version : ℕ
  pub state : ℕ
  pub words : List Word

-- with one word more, the last
abbrev pub put_last : Word → Page → Page
put_last w p = record { version = p.version; state = p.state; words = p.words ++ (w ∷ []) }

-- the items it is read from
pub record SyllableAt : Type 0 where
  pub at : ℕ
  pub phones : List ℕ

pub record WordAt : Type 0 where
  pub at : ℕ
  pub syllables : List SyllableAt

abbrev pub syllables_at : List SyllableAt → List ℕ
syllables_at [] = []
syllables_at (y ∷ ys) = y.at ∷ syllables_at ys

abbrev pub words_at : List WordAt → List ℕ
words_at [] = []
words_at (w ∷ ws) = w.at ∷ words_at ws

-- the phones in reading order
abbrev pub phones_in : List SyllableAt → List ℕ
phones_in [] = []
phones_in (y ∷ ys) = y.phones ++ phones_in ys

abbrev pub phones_at : List WordAt → List ℕ
phones_at [] = []
phones_at (w ∷ ws) = phones_in w.syllables ++ phones_at ws

-- all items in reading order: a word, its first syllable, the phones of that, the next syllable
abbrev pub items_in : List SyllableAt → List ℕ
items_in [] = []
items_in (y ∷ ys) = y.at ∷ (y.phones ++ items_in ys)

abbrev pub items_at : List WordAt → List ℕ
items_at [] = []
items_at (w ∷ ws) = w.at ∷ (items_in w.syllables ++ items_at ws)

module _ (S : ℕ → Item) where
  -- the next sibling among the children of p; from p itself its first child
  unfoldable pub sibling : ℕ → ℕ → ℕ
  sibling p i = when eqb i p then (S i).first else (S i).next

  -- the phones before and behind an item; item 0 has the last and the first
  unfoldable pub prev : ℕ → ℕ
  prev i = (S i).prev

  unfoldable pub follow : ℕ → ℕ
  follow i = (S i).follow

  -- these are the children of p
  pub record Children (p : ℕ) (xs : List ℕ) : Type 0 where
    pub linked : Linked (sibling p) p xs
    pub last : (S p).last ≡ end_of 0 xs
    pub parents : All (λ (x : ℕ). (S x).parent ≡ p) xs

  -- a list of syllables, and of words, with their children
  abbrev pub Syllables : List SyllableAt → Type 0
  Syllables [] = Unit {0}
  Syllables (y ∷ ys) = ((S y.at).kind ≡ 2) × Children y.at y.phones × All (λ (x : ℕ). (S x).kind ≡ 3) y.phones × Syllables ys

  abbrev pub Words : List WordAt → Type 0
  Words [] = Unit {0}
  Words (w ∷ ws) = ((S w.at).kind ≡ 1) × Children w.at (syllables_at w.syllables) × Syllables w.syllables × Words ws

  -- the tree: words are item 0's children, syllables a word's, phones a syllable's
  pub record Tree (ws : List WordAt) : Type 0 where
    pub top : Children 0 (words_at ws)
    pub words : Words ws

  -- each syllable of a word has a stress of version v (02, S-9), and a phone
  abbrev pub SungIn : ℕ → List SyllableAt → Type 0
  SungIn v [] = Unit {0}
  SungIn v (y ∷ ys) = (is_stress v (S y.at).stress ≡ true) × (1 ≤ length y.phones) × SungIn v ys

  abbrev pub Sung : ℕ → List WordAt → Type 0
  Sung v [] = Unit {0}
  Sung v (w ∷ ws) = SungIn v w.syllables × Sung v ws

  -- reading: from item 0's first word, and from a parent's first child, on by next sibling up to 0, at most n at each step
  abbrev pub children_of : ℕ → ℕ → List ℕ
  children_of n p = chain (sibling p) n p

  abbrev pub syllable_from : ℕ → ℕ → SyllableAt
  syllable_from n y = record { at = y; phones = children_of n y }

  abbrev pub word_from : ℕ → ℕ → WordAt
  word_from n w = record { at = w; syllables = map (syllable_from n) (children_of n w) }

  unfoldable pub places : ℕ → List WordAt
  places n = map (word_from n) (children_of n 0)

  -- what they say
  abbrev pub text_at : ℕ → List ℕ
  text_at i = (S i).text

  abbrev pub syllable_at : SyllableAt → Syllable
  syllable_at y = record { stress = (S y.at).stress; phones = map text_at y.phones }

  abbrev pub word_at : WordAt → Word
  word_at w = record { text = text_at w.at; source = (S w.at).source; syllables = map syllable_at w.syllables }
