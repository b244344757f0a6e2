-- 01, Lookup: the form of the sections that hold compiled entries, and a checked lexicon: no entry is damaged, every number has a phone and no word is smaller than the one before it.
-- Assumes nothing.
use Rattle.std.specs.Prelude.{ℕ, ◌+◌, ◌-◌, Bool, not, ◌&&◌, List}
use Rattle.texts.specs.Lists.{every, up_to}
use Rattle.texts.specs.Text.{smaller}
use Rattle.data.specs.Sections.{is_phone_table, is_lex_index}
use Rattle.compiled_spec.specs.Entries.{word_of, is_whole, is_spoken, count, entry_at}

-- the sections that hold compiled entries have their form (refusal 1); any bytes may be lex.data
unfoldable pub is_lexicon : List ℕ → List ℕ → Bool
is_lexicon phones index = is_phone_table phones && is_lex_index index

-- entry i is not damaged, and every number of it has a phone
unfoldable pub is_good : List ℕ → List ℕ → List ℕ → ℕ → Bool
is_good phones index dat i = is_whole (entry_at index dat i) && is_spoken phones (entry_at index dat i)

-- the word behind entry i is not smaller than its own
unfoldable pub rises : List ℕ → List ℕ → ℕ → Bool
rises index dat i = not (smaller (word_of (entry_at index dat (i + 1))) (word_of (entry_at index dat i)))

unfoldable pub is_checked : List ℕ → List ℕ → List ℕ → Bool
is_checked phones index dat = every (is_good phones index dat) (up_to (count index)) && every (rises index dat) (up_to (count index - 1))
