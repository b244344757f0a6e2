-- 01, Store and sheet, and 02, S-9: say word follows `insert_pronunciations`. The phones of a word: looked up, or from the letter trees where no
-- source has it; and its syllables, with the stresses of the sheet's version.
-- Assumes nothing.
use Rattle.std.specs.Prelude.{ℕ, false, List, [], ◌∷◌, map, ltb, length}
use Rattle.std.proofs.Math.Option.{Option, none, some}
use Rattle.texts.specs.Choice.{when◌then◌else◌}
use Rattle.versions.specs.Versions.{digits}
use Rattle.phoneset.specs.Stress.{is_stressed, stress, bare}
use Rattle.onsets.specs.Onsets.{onsets}
use Rattle.slots_spec.specs.Slot.{Entry}
use Rattle.syllabify.specs.Syllables.{marks, syllables}
use Rattle.lts_spec.specs.Letters.{letters, stopped}
use Rattle.answers.specs.Told.{source_number}
use Rattle.lexicon_spec.specs.Lookup.{Finding, nothing, damaged, found, find, wanted_tag}
use Rattle.utterance_spec.specs.Tree.{Syllable, Word}

-- the sections that say word takes
pub record Sections : Type 0 where
  pub lex_phones : List ℕ
  pub lex_index : List ℕ
  pub lex_data : List ℕ
  pub lts_phones : List ℕ
  pub lts_index : List ℕ
  pub lts_model : List ℕ

-- the six in the order in which calls take them
abbrev pub tables : List ℕ → List ℕ → List ℕ → List ℕ → List ℕ → List ℕ → Sections
tables lex_phones lex_index lex_data lts_phones lts_index lts_model =
    record { lex_phones = lex_phones; lex_index = lex_index; lex_data = lex_data; lts_phones = lts_phones; lts_index = lts_index; lts_model = lts_model }

-- what a word comes to: the number of a refusal; or its source, the place where its letters stopped (02, S-5), and its phones
pub data Spoken : Type 0 where
  barred : ℕ → Spoken
  phones : ℕ → ℕ → List (List ℕ) → Spoken

-- the letter trees are the fourth source (02, S-6)
abbrev pub on_letters : Option (List (List ℕ)) → ℕ → Spoken
on_letters none place = barred 6
on_letters (some ps) place = phones 4 place ps

-- only "none" goes on to the letter trees; where the letters weren't read the place is 0
abbrev pub on_finding : Finding → Option (List (List ℕ)) → ℕ → Spoken
on_finding nothing from_letters place = on_letters from_letters place
on_finding damaged from_letters place = barred 6
on_finding (found s ps) from_letters place = when ltb 96 (length ps) then barred 7 else phones (source_number s) 0 ps

unfoldable pub pronounced : Sections → List Entry → List ℕ → List ℕ → Spoken
pronounced c es word tag =
    on_finding (find es c.lex_phones c.lex_index c.lex_data word (wanted_tag tag)) (letters c.lts_phones c.lts_index c.lts_model word) (stopped word)

-- the last stress of version v among phones, d if there is none
unfoldable pub last_stress : ℕ → ℕ → List (List ℕ) → ℕ
last_stress v d [] = d
last_stress v d (p ∷ ps) = last_stress v (when is_stressed (digits v) p then stress (digits v) p else d) ps

-- a syllable: its last stress, else "0", and its bare phones
unfoldable pub sung : ℕ → List (List ℕ) → Syllable
sung v ps = record { stress = last_stress v 48 ps; phones = map (bare (digits v)) ps }

-- the word as given, with its source (02, S-6); its syllables end at syllabify's marks over the bare phones of the version (02, S-9)
unfoldable pub said : ℕ → List ℕ → ℕ → List (List ℕ) → Word
said v word source ps =
    record { text = word; source = source; syllables = map (sung v) (syllables (marks onsets false (map (bare (digits v)) ps)) ps) }
