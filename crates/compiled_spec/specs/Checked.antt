-- 01, Lookup: in a lexicon that check lexicon says yes to, a compiled answer is the first equal word with the exact tag, else the first equal word.
-- Assumes nothing.
use Rattle.std.specs.Prelude.{ℕ, Bool, ◌&&◌, List, eqb, ltb, Some, None, Ok}
use Rattle.texts.specs.Choice.{when◌then◌else◌}
use Rattle.texts.specs.Lists.{place, up_to}
use Rattle.texts.specs.Text.{same}
use Rattle.compiled_spec.specs.Entries.{tag_of, word_of, count, entry_at}
use Rattle.compiled_spec.specs.Search.{Chosen}

-- the word of entry i
abbrev pub word_at : List ℕ → List ℕ → ℕ → List ℕ
word_at index dat i = word_of (entry_at index dat i)

module _ (index dat word : List ℕ) where
  -- entry i has the word
  abbrev pub is_equal : ℕ → Bool
  is_equal i = same (word_at index dat i) word

  -- and the tag
  abbrev pub is_exact : ℕ → ℕ → Bool
  is_exact tag i = is_equal i && eqb (tag_of (entry_at index dat i)) tag

  -- the first entry with the word and the tag, else the first with the word, else none
  unfoldable pub first : ℕ → Chosen
  first tag =
      let exact = place (is_exact tag) (up_to (count index)) in
      let equal = place is_equal (up_to (count index)) in
      when ltb exact (count index) then Ok (Some exact) else when ltb equal (count index) then Ok (Some equal) else Ok None
