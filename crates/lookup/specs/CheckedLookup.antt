-- 01, Lookup as a call where check lexicon says yes: a word that neither store nor addenda have is answered by the first equal word with the exact tag, else by the first equal word, else by none; and no lookup is refused by 6.
-- Assumes nothing.
use Rattle.std.specs.Prelude.{ℕ, ◌<◌, List}
use Rattle.std.proofs.Math.Path.{◌≡◌}
use Rattle.compiled_spec.specs.Entries.{tag_of, word_of, entry_phones, count, entry_at}
use Rattle.answers.specs.declared.Source.TheVariants.{Compiled}
use Rattle.lexicon_spec.specs.Lookup.{Finding, nothing, damaged, found}

module _ (index dat word : List ℕ) where
  -- entry i has the word
  abbrev pub Equal : ℕ → Type 0
  Equal i = word_of (entry_at index dat i) ≡ word

  -- and the tag
  abbrev pub Exact : ℕ → ℕ → Type 0
  Exact tag i = (word_of (entry_at index dat i) ≡ word) × (tag_of (entry_at index dat i) ≡ tag)

-- number i below n is the first of a kind
abbrev pub First : (ℕ → Type 0) → ℕ → ℕ → Type 0
First P n i = (i < n) × P i × ((j : ℕ) → j < i → P j → ⊥)

-- no number below n is of that kind
abbrev pub Never : (ℕ → Type 0) → ℕ → Type 0
Never P n = (j : ℕ) → j < n → P j → ⊥

-- the phones of the first entry with the word and the tag; else of the first with the word; else nothing
pub data Answers (phones index dat word : List ℕ) (tag : ℕ) : Finding → Type 0 where
  exact : (i : ℕ) → First (Exact index dat word tag) (count index) i → Answers phones index dat word tag (found Compiled (entry_phones phones (entry_at index dat i)))
  equal : (i : ℕ) → Never (Exact index dat word tag) (count index) → First (Equal index dat word) (count index) i
      → Answers phones index dat word tag (found Compiled (entry_phones phones (entry_at index dat i)))
  missing : Never (Equal index dat word) (count index) → Answers phones index dat word tag nothing

-- a finding that is no damage
abbrev pub Undamaged : Finding → Type 0
Undamaged nothing = Unit {0}
Undamaged damaged = ⊥
Undamaged (found s ps) = Unit {0}
