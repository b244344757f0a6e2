-- Sheets that tell no book: reading or a chain of phones does not come to 0 within items 1 to used, though walked for `used` steps they would pass;
-- a word has no source (02, S-6), the sheet no known version, or a syllable a stress that its version has not (02, S-9). With the one byte put right each tells a book.
-- Assumes nothing.
use Rattle.std.specs.Prelude.{ℕ, List, [], ◌∷◌, ◌++◌}
use Rattle.texts.specs.Text.{bytes}
use Rattle.items_spec.specs.Item.{item}
use Rattle.utterance_spec.specs.Tree.{Word, Page, follow, prev}

-- a sheet of no words: item 0, all of it 0 but for bytes 1 (version), 4 (first word), 10 (last phone) and 12 (first phone)
abbrev pub no_words : ℕ → ℕ → ℕ → ℕ → List ℕ
no_words version first prev follow =
    0 ∷ version ∷ 0 ∷ 0 ∷ first ∷ 0 ∷ 0 ∷ 0 ∷ 0 ∷ 0 ∷ prev ∷ 0 ∷ follow ∷ 0 ∷ 0 ∷ 0
    ∷ 0 ∷ 0 ∷ 0 ∷ 0 ∷ 0 ∷ 0 ∷ 0 ∷ 0 ∷ 0 ∷ 0 ∷ 0 ∷ 0 ∷ 0 ∷ 0 ∷ 0 ∷ 0
    ∷ 0 ∷ 0 ∷ 0 ∷ 0 ∷ 0 ∷ 0 ∷ 0 ∷ 0 ∷ 0 ∷ 0 ∷ 0 ∷ 0 ∷ 0 ∷ 0 ∷ 0 ∷ 0
    ∷ 0 ∷ 0 ∷ 0 ∷ 0 ∷ 0 ∷ 0 ∷ 0 ∷ 0 ∷ 0 ∷ 0 ∷ 0 ∷ 0 ∷ 0 ∷ 0 ∷ 0 ∷ 0 ∷ []

-- a sheet of version 1 with one word, ",": in item 0 bytes 1 (version), 4 (first word), 6 (last word) and 8 (used); in item 1 bytes 64 (kind),
-- 66 (next sibling), 79 (source), 80 (text length) and 81 (text)
abbrev pub one_word : ℕ → ℕ → List ℕ
one_word next source =
    0 ∷ 1 ∷ 0 ∷ 0 ∷ 1 ∷ 0 ∷ 1 ∷ 0 ∷ 1 ∷ 0 ∷ 0 ∷ 0 ∷ 0 ∷ 0 ∷ 0 ∷ 0
    ∷ 0 ∷ 0 ∷ 0 ∷ 0 ∷ 0 ∷ 0 ∷ 0 ∷ 0 ∷ 0 ∷ 0 ∷ 0 ∷ 0 ∷ 0 ∷ 0 ∷ 0 ∷ 0
    ∷ 0 ∷ 0 ∷ 0 ∷ 0 ∷ 0 ∷ 0 ∷ 0 ∷ 0 ∷ 0 ∷ 0 ∷ 0 ∷ 0 ∷ 0 ∷ 0 ∷ 0 ∷ 0
    ∷ 0 ∷ 0 ∷ 0 ∷ 0 ∷ 0 ∷ 0 ∷ 0 ∷ 0 ∷ 0 ∷ 0 ∷ 0 ∷ 0 ∷ 0 ∷ 0 ∷ 0 ∷ 0
    ∷ 1 ∷ 0 ∷ next ∷ 0 ∷ 0 ∷ 0 ∷ 0 ∷ 0 ∷ 0 ∷ 0 ∷ 0 ∷ 0 ∷ 0 ∷ 0 ∷ 0 ∷ source
    ∷ 1 ∷ 44 ∷ 0 ∷ 0 ∷ 0 ∷ 0 ∷ 0 ∷ 0 ∷ 0 ∷ 0 ∷ 0 ∷ 0 ∷ 0 ∷ 0 ∷ 0 ∷ 0
    ∷ 0 ∷ 0 ∷ 0 ∷ 0 ∷ 0 ∷ 0 ∷ 0 ∷ 0 ∷ 0 ∷ 0 ∷ 0 ∷ 0 ∷ 0 ∷ 0 ∷ 0 ∷ 0
    ∷ 0 ∷ 0 ∷ 0 ∷ 0 ∷ 0 ∷ 0 ∷ 0 ∷ 0 ∷ 0 ∷ 0 ∷ 0 ∷ 0 ∷ 0 ∷ 0 ∷ 0 ∷ 0 ∷ []

-- that word, as a book has it, and what a sheet of version 1 with these words reads as
abbrev pub comma : ℕ → Word
comma source = record { text = 44 ∷ []; source = source; syllables = [] }

abbrev pub page_one : List Word → Page
page_one words = record { version = 1; state = 0; words = words }

-- a sheet of one word, "a", with one syllable of stress "2" and the phone ae, by its items
abbrev pub one_syllable : ℕ → List ℕ
one_syllable version =
    item (record { kind = 0; stress = version; next = 0; first = 1; last = 1; parent = 3; prev = 3; follow = 3; mark = 0; source = 0; text = [] })
    ++ item (record { kind = 1; stress = 0; next = 0; first = 2; last = 2; parent = 0; prev = 0; follow = 0; mark = 0; source = 1; text = bytes "a" })
    ++ item (record { kind = 2; stress = 50; next = 0; first = 3; last = 3; parent = 1; prev = 0; follow = 0; mark = 0; source = 0; text = [] })
    ++ item (record { kind = 3; stress = 0; next = 0; first = 0; last = 0; parent = 2; prev = 0; follow = 0; mark = 0; source = 0; text = bytes "ae" })

-- that word, as a book has it
abbrev pub secondary : Word
secondary = record { text = bytes "a"; source = 1; syllables = record { stress = 50; phones = bytes "ae" ∷ [] } ∷ [] }
