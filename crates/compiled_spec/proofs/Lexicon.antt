-- Theorems about `specs/Lexicon.antt`: 01, Lookup: the form of the sections that hold compiled entries, and a checked lexicon: no entry is damaged, every number has a phone and no word is smaller than the one before it.
-- Assumes nothing.
use Rattle.std.specs.Prelude.{ℕ, ◌+◌, ◌*◌, ◌≤◌, ◌≡◌, true, List, leb, length}
use Rattle.std.proofs.Common.{leb-true}
use Rattle.texts.specs.Choice.{both_true}
use Rattle.data.specs.Sections.{is_phone_table, is_lex_index}
use Rattle.compiled_spec.specs.Entries.{count}
use Rattle.compiled_spec.specs.Lexicon.{is_lexicon}

-- what the form of the sections gives: a table of phones, and room for the offsets
pub lexicon_table : (phones index : List ℕ) → is_lexicon phones index ≡ true → is_phone_table phones ≡ true
unfolding is_lexicon
lexicon_table phones index h = (both_true (is_phone_table phones) (is_lex_index index) h).0

pub index_room : (phones index : List ℕ) → is_lexicon phones index ≡ true → 4 + 4 * count index ≤ length index
unfolding is_lexicon is_lex_index
index_room phones index h =
    leb-true (4 + 4 * count index) (length index) (both_true (leb 4 (length index)) (leb (4 + 4 * count index) (length index)) (both_true (is_phone_table phones) (is_lex_index index) h).1).1
