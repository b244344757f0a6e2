-- Theorems about `specs/Entries.antt`: 01, Lookup: a compiled entry at its lex.data offset is tag, word length, word, phone count, phone numbers.
-- Assumes nothing.
use Rattle.std.specs.Prelude.{ℕ, ◌+◌, ◌-◌, ◌≤◌, ◌<◌, ◌≡◌, true, false, List, [], leb, ltb, length, get_or, take, drop}
use Rattle.std.proofs.Common.{arith, ltb-true, leb-true, le-leb}
use Rattle.std.proofs.lemmas.List.{length-map}
use Rattle.std.proofs.lemmas.Bool.{lt-leb}
use Rattle.texts.specs.Choice.{both_true}
use Rattle.texts.specs.Lists.{every_at, get_d_map}
use Rattle.texts.specs.Text.{ascii}
use Rattle.records.specs.Fields.{u32_at}
use Rattle.data.specs.Sections.{is_phone_table, table_phones, table_fits}
use Rattle.compiled_spec.specs.Entries.{word_of, numbers_of, is_whole, is_spoken, entry_phones}

-- an entry whose parts are not all inside is damaged; else its word decides
pub whole_short : (s : List ℕ) → length s ≤ 2 + get_or s 1 0 + get_or s (2 + get_or s 1 0) 0 → is_whole s ≡ false
unfolding is_whole
whole_short s h = rw (lt-leb (3 + get_or s 1 0 + get_or s (2 + get_or s 1 0) 0) (length s) (omega arith))

pub whole_told : (s : List ℕ) → 2 + get_or s 1 0 + get_or s (2 + get_or s 1 0) 0 < length s → is_whole s ≡ ascii (word_of s)
unfolding is_whole
whole_told s h = rw (le-leb (3 + get_or s 1 0 + get_or s (2 + get_or s 1 0) 0) (length s) (omega arith))

-- the word of a whole entry lies inside, and is cut out by its length
pub whole_long : (s : List ℕ) → is_whole s ≡ true → 2 + get_or s 1 0 < length s
unfolding is_whole
whole_long s h =
    let l = leb-true (3 + get_or s 1 0 + get_or s (2 + get_or s 1 0) 0) (length s) (both_true (leb (3 + get_or s 1 0 + get_or s (2 + get_or s 1 0) 0) (length s)) (ascii (word_of s)) h).0 in
    omega arith

pub word_cut : (s : List ℕ) (n : ℕ) → n ≡ get_or s 1 0 → take (2 + n - 2) (drop 2 s) ≡ word_of s
unfolding word_of
word_cut s n e = let k : 2 + n - 2 ≡ get_or s 1 0 = omega arith in rw k

-- an entry has as many phones as numbers, each the one of its number, which the table has
pub length_spoken : (table s : List ℕ) → length (entry_phones table s) ≡ length (numbers_of s)
unfolding entry_phones
length_spoken table s = length-map (numbers_of s) (λ (n : ℕ). get_or (table_phones table) n [])

pub spoken_at : (table s : List ℕ) (i : ℕ) → i < length (numbers_of s) → get_or (entry_phones table s) i [] ≡ get_or (table_phones table) (get_or (numbers_of s) i 0) []
unfolding entry_phones
spoken_at table s i h = get_d_map (λ (n : ℕ). get_or (table_phones table) n []) (numbers_of s) i 0 [] h

pub number_in : (table s : List ℕ) (i : ℕ) → is_spoken table s ≡ true → i < length (numbers_of s) → get_or (numbers_of s) i 0 < u32_at table 0
unfolding is_spoken
number_in table s i e h = ltb-true (get_or (numbers_of s) i 0) (u32_at table 0) (every_at (λ (n : ℕ). ltb n (u32_at table 0)) (numbers_of s) 0 e i h)

pub spoken_fits : (table s : List ℕ) → is_phone_table table ≡ true → is_spoken table s ≡ true → (i : ℕ) → i < length (entry_phones table s) → length (get_or (entry_phones table s) i []) ≤ 15
spoken_fits table s t e i h =
    let l = length_spoken table s in
    rw (spoken_at table s i (omega arith)) (table_fits table (get_or (numbers_of s) i 0) t (number_in table s i e (omega arith))).short
