-- 01, Lookup: a compiled entry at its lex.data offset is tag, word length, word, phone count, phone numbers.
-- Assumes nothing.
use Rattle.std.specs.Prelude.{ℕ, ◌+◌, ◌*◌, Bool, ◌&&◌, List, [], map, leb, ltb, length, get_or, take, drop}
use Rattle.texts.specs.Lists.{every}
use Rattle.texts.specs.Text.{ascii}
use Rattle.records.specs.Fields.{u32_at}
use Rattle.data.specs.Sections.{table_phones}

-- the parts of an entry at the front of bytes
unfoldable pub tag_of : List ℕ → ℕ
tag_of s = get_or s 0 0

unfoldable pub word_of : List ℕ → List ℕ
word_of s = take (get_or s 1 0) (drop 2 s)

unfoldable pub numbers_of : List ℕ → List ℕ
numbers_of s = take (get_or s (2 + get_or s 1 0) 0) (drop (3 + get_or s 1 0) s)

-- no part lies outside, and its word has no byte of 128 or more; else the entry is damaged
unfoldable pub is_whole : List ℕ → Bool
is_whole s = leb (3 + get_or s 1 0 + get_or s (2 + get_or s 1 0) 0) (length s) && ascii (word_of s)

-- how many entries there are
abbrev pub count : List ℕ → ℕ
count index = u32_at index 0

-- entry i: the bytes from its offset on
unfoldable pub entry_at : List ℕ → List ℕ → ℕ → List ℕ
entry_at index dat i = drop (u32_at index (4 + 4 * i)) dat

-- every number of an entry has a phone
unfoldable pub is_spoken : List ℕ → List ℕ → Bool
is_spoken table s = every (λ (n : ℕ). ltb n (u32_at table 0)) (numbers_of s)

-- the phones of an entry
unfoldable pub entry_phones : List ℕ → List ℕ → List (List ℕ)
entry_phones table s = map (λ (n : ℕ). get_or (table_phones table) n []) (numbers_of s)
