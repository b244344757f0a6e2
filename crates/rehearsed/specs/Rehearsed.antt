-- 01, Rehearsed words: the cases marked *, as the rows of one theorem about the definitions that the calls' contracts cite.
-- Assumes nothing.
use Rattle.std.specs.Prelude.{ℕ, ◌-◌, ◌*◌, ◌/◌, ◌≤◌, ◌<◌, ◌≡◌, refl, true, false, List, [], ◌∷◌, ◌++◌, map, length, drop}
use Rattle.std.proofs.Common.{zero-le, arith, ap, ◌∙◌, le-ltb}
use Prim.Native.String.{String}
use Rattle.std.proofs.Math.Option.{some, or_else}
use Rattle.texts.specs.Lists.{every, some as any, place, behind_last, first}
use Rattle.texts.specs.Text.{bytes, folded, is_word, ascii, low, same, is, agree}
use Rattle.answers.specs.Told.{accepted, accepted_with, source_number}
use Rattle.records.specs.Records.{records, first_records}
use Rattle.cells.specs.Cells.{cells_of, cell, text, phones_of, ascii_phones, short_phones, short_cell}
use Rattle.phoneset.specs.Phones.{phones, row_of, is_known, is_vowel}
use Rattle.versions.specs.Versions.{digits}
use Rattle.phoneset.specs.Stress.{last_byte, is_stressed, stress, bare}
use Rattle.onsets.specs.Onsets.{onsets, is_onset}
use Rattle.syllabify.specs.Syllables.{marks as marks_of, cut, joined}
use Rattle.syllabify.specs.Call.{syllabify, syllabified}
use Rattle.lts_spec.specs.Letters.{is_trees, letters, stopped, up_to, padded}
use Rattle.lts_spec.specs.Call.{predict, predicted}
use Rattle.addenda.specs.Addenda.{addenda}
use Rattle.addenda.specs.Find.{is_meant}
use Rattle.slots_spec.specs.Slot.{Entry}
use Rattle.store_spec.specs.Store.{slots, entries, is_store_length, is_wanted, same_key}
use Rattle.new_store.specs.NewStore.{new_store, new_bytes}
use Rattle.store_spec.specs.Adding.{adding, without, entry_for}
use Rattle.store_spec.proofs.Result.{few as few_slots}
use Rattle.new_store.specs.Fresh.{fresh, length_fresh, fresh_sound, fresh_entries, fresh_count}
use Rattle.compiled_spec.specs.Lexicon.{is_lexicon}
use Rattle.compiled_spec.proofs.Lexicon.{lexicon_table}
use Rattle.lexicon_spec.specs.Adding.{stored_word, new_entry, added_tag}
use Rattle.lexicon_spec.specs.Lookup.{found, chosen_entry, find, wanted_tag}
use Rattle.lookup.specs.Lookup.{lookup, looked_up}
use Rattle.answers.specs.declared.Source.{Source}
use Rattle.answers.specs.declared.Source.TheVariants.{Runtime, Addenda}
use Rattle.rehearsed.specs.Grown.{Add, grown, AllAccepted, book, is_own, is_plain, grow, answered}

-- a rehearsed case
pub data Case : Type 0 where
  -- phones handed to syllabify, and the digits of their marks
  marks : List String → String → Case
  -- a version of the sheet (02, S-9), a phone, its bare phone and its stress, if it has one
  stressed : ℕ → String → String → String → Case
  -- a phone that is a vowel, bare, in a version
  vowel : ℕ → String → Case
  -- a word for which predict gives no phones, whatever the trees, and where its letters stop (02, S-5)
  unspoken : String → ℕ → Case
  -- entries added to a new store, and what a word without a tag then gives, whatever the lexicon: its source and its phones
  looked : List Add → String → Source → List String → Case

-- digits as bytes 0 and 1
abbrev bits : List ℕ → List ℕ
bits [] = []
bits (d ∷ ds) = (d - 48) ∷ bits ds

-- the one byte of a stress, 0 for none
abbrev stress_of : List ℕ → ℕ
stress_of [] = 0
stress_of (d ∷ ds) = d

-- what a case says
abbrev pub Holds : Case → Type 0
Holds (marks ps ms) =
    let given = cells_of (map bytes ps) in
    let buffer : List ℕ = map (λ (d : ℕ). 9) (bytes ms) in
    (syllabify given buffer ≡ accepted 0 (length (bytes ms))) × (syllabified given buffer ≡ bits (bytes ms))
Holds (stressed v p b s) = (bare (digits v) (bytes p) ≡ bytes b) × (stress (digits v) (bytes p) ≡ stress_of (bytes s))
Holds (vowel v p) = is_vowel (bare (digits v) (bytes p)) ≡ true
Holds (unspoken w stop) =
    (lts-phones lts-index lts-model out : List ℕ) → is_trees lts-phones lts-index lts-model ≡ true
    → (predict lts-phones lts-index lts-model (bytes w) out ≡ accepted_with 0 0 stop 0) × (predicted lts-phones lts-index lts-model (bytes w) out ≡ out)
Holds (looked adds w s ps) =
    (lex-phones lex-index lex-data bytes-lent out : List ℕ) → is_lexicon lex-phones lex-index ≡ true → is_store_length (length bytes-lent) ≡ true
    → length adds < slots bytes-lent → 16 * length (map bytes ps) ≤ length out
    → AllAccepted lex-phones (new_bytes bytes-lent) adds
    × (lookup lex-phones lex-index lex-data (grown lex-phones (new_bytes bytes-lent) adds) (bytes w) [] out ≡ accepted (source_number s) (length (map bytes ps)))
    × (looked_up lex-phones lex-index lex-data (grown lex-phones (new_bytes bytes-lent) adds) (bytes w) [] out ≡ cells_of (map bytes ps) ++ drop (16 * length (map bytes ps)) out)

abbrev pub Each : List Case → Type 0
Each [] = Unit
Each (c ∷ cs) = Holds c × Each cs

-- an entry to be added: a word, a tag, its phones; ordinary, and exact (02, S-8)
abbrev entry : String → String → List String → Add
entry w t ps = record { word = bytes w; tag = bytes t; phones = cells_of (map bytes ps); exact = false }

abbrev exactly : String → String → List String → Add
exactly w t ps = record { word = bytes w; tag = bytes t; phones = cells_of (map bytes ps); exact = true }

-- to polish, and what comes from Poland
abbrev the_verb : List String
the_verb = "p" ∷ "aa" ∷ "l" ∷ "ih" ∷ "sh" ∷ []

abbrev the_name : List String
the_name = "p" ∷ "ow" ∷ "l" ∷ "ih" ∷ "sh" ∷ []

abbrev to_polish : Add
to_polish = entry "Polish" "" the_verb

abbrev from_poland : Add
from_poland = exactly "Polish" "" the_name

unfoldable pub cases : List Case
cases =
    marks [] "" ∷
    marks ("k" ∷ "ae" ∷ "t" ∷ []) "001" ∷
    marks ("eh" ∷ "k" ∷ "s" ∷ "t" ∷ "r" ∷ "ax" ∷ []) "010001" ∷
    marks ("s" ∷ "ih" ∷ "ng" ∷ "er" ∷ []) "0011" ∷
    marks ("s" ∷ "t" ∷ []) "01" ∷
    marks ("t" ∷ "pau" ∷ "aa" ∷ []) "101" ∷
    marks ("ae" ∷ "t" ∷ "h" ∷ "r" ∷ "ax" ∷ []) "10001" ∷
    marks ("ae" ∷ "t" ∷ "l" ∷ "ax" ∷ []) "0101" ∷
    stressed 1 "ax11" "ax1" "1" ∷
    stressed 1 "ae2" "ae2" "" ∷
    stressed 2 "ae2" "ae" "2" ∷
    vowel 2 "ae2" ∷
    unspoken "" 0 ∷
    unspoken "a#" 2 ∷
    looked [] "in" Addenda ("ih" ∷ "n" ∷ []) ∷
    looked [] "," Addenda [] ∷
    looked (entry "lead" "v" ("l" ∷ "iy" ∷ "d" ∷ []) ∷ entry "lead" "n" ("l" ∷ "eh" ∷ "d" ∷ []) ∷ []) "lead" Runtime ("l" ∷ "iy" ∷ "d" ∷ []) ∷
    looked (entry "lead" "v" ("l" ∷ "iy" ∷ "d" ∷ []) ∷ entry "lead" "n" ("l" ∷ "eh" ∷ "d" ∷ []) ∷ entry "lead" "v" ("l" ∷ "iy" ∷ "d" ∷ []) ∷ [])
    "lead" Runtime ("l" ∷ "eh" ∷ "d" ∷ []) ∷
    looked (to_polish ∷ from_poland ∷ []) "Polish" Runtime the_name ∷
    looked (from_poland ∷ to_polish ∷ []) "POLISH" Runtime the_verb ∷
    []

-- a word without letters behind its last "#" needs no tree
nothing : (lts-phones lts-index lts-model out : List ℕ) (word : List ℕ) → is_word word ≡ true → letters lts-phones lts-index lts-model word ≡ some []
    → is_trees lts-phones lts-index lts-model ≡ true
    → (predict lts-phones lts-index lts-model word out ≡ accepted_with 0 0 (stopped word) 0) × (predicted lts-phones lts-index lts-model word out ≡ out)
unfolding predict predicted cells_of
nothing lts-phones lts-index lts-model out word w e t =
    let n = le-ltb (length out) 0 zero-le in
    (rw (t, w, e, n), rw (t, w, e, n))

-- plain entries in a new store, and a word that its book finds
plain : (adds : List Add) (word : List ℕ) (s : Source) (ps : List (List ℕ)) → every is_plain adds ≡ true → is_word word ≡ true
    → ((lex-phones lex-index lex-data : List ℕ) → find (book [] adds) lex-phones lex-index lex-data word 48 ≡ found s ps) → length ps ≤ 96
    → (lex-phones lex-index lex-data bytes-lent out : List ℕ) → is_lexicon lex-phones lex-index ≡ true → is_store_length (length bytes-lent) ≡ true
    → length adds < slots bytes-lent → 16 * length ps ≤ length out
    → AllAccepted lex-phones (new_bytes bytes-lent) adds
    × (lookup lex-phones lex-index lex-data (grown lex-phones (new_bytes bytes-lent) adds) word [] out ≡ accepted (source_number s) (length ps))
    × (looked_up lex-phones lex-index lex-data (grown lex-phones (new_bytes bytes-lent) adds) word [] out ≡ cells_of ps ++ drop (16 * length ps) out)
unfolding new_bytes new_store wanted_tag is_word ascii every
plain adds word s ps p w f few lex-phones lex-index lex-data b out l n room fits =
    let h = fresh_sound b n in
    let e = fresh_entries b n in
    let k : slots (fresh b n) ≡ slots b = ap (λ (m : ℕ). m / 512) (length_fresh b n) in
    let z : length (entries (fresh b n)) ≡ 0 = ap (λ (es : List Entry). length es) e in
    let c = fresh_count b n in
    let m = few_slots (length b) n in
    let g = grow lex-phones (fresh b n) adds (lexicon_table lex-phones lex-index l) h p (omega arith) (omega arith) in
    let t : find (entries (grown lex-phones (fresh b n) adds)) lex-phones lex-index lex-data word 48 ≡ found s ps =
    ap (λ (es : List Entry). find es lex-phones lex-index lex-data word 48) (g.holds ∙ ap (λ (es : List Entry). book es adds) e) ∙ f lex-phones lex-index lex-data in
    let a = answered lex-phones lex-index lex-data (grown lex-phones (fresh b n) adds) word [] out s ps l g.sound (rw w) t few fits in
    rw n (g.taken, a.0, a.1)

pub rehearsed : Each cases
unfolding cases syllabify syllabified phones_of cells_of cell text records first_records ascii_phones short_phones short_cell ascii low every any same is place phones row_of is_vowel onsets is_onset marks_of cut joined digits last_byte is_stressed stress bare is_word folded letters stopped behind_last up_to padded is_plain is_own is_known book find first is_wanted is_meant addenda agree chosen_entry or_else stored_word new_entry entry_for added_tag adding without same_key
rehearsed = (
  (refl, refl),
  (
    (refl, refl),
    (
      (refl, refl),
      (
        (refl, refl),
        (
          (refl, refl),
          (
            (refl, refl),
            (
              (refl, refl),
              (
                (refl, refl),
                (
                  (refl, refl),
                  (
                    (refl, refl),
                    (
                      (refl, refl),
                      (
                        refl,
                        (
                          (λ p i m out t. nothing p i m out [] refl refl t),
                          (
                            (λ p i m out t. nothing p i m out (bytes "a#") refl refl t),
                            (
                              plain [] (bytes "in") Addenda (map bytes ("ih" ∷ "n" ∷ [])) refl refl (λ p i d. refl) (omega arith),
                              (
                                plain [] (bytes ",") Addenda [] refl refl (λ p i d. refl) (omega arith),
                                (
                                  plain (entry "lead" "v" ("l" ∷ "iy" ∷ "d" ∷ []) ∷ entry "lead" "n" ("l" ∷ "eh" ∷ "d" ∷ []) ∷ []) (bytes "lead") Runtime (map bytes ("l" ∷ "iy" ∷ "d" ∷ [])) refl refl (λ p i d. refl) (omega arith),
                                  (
                                    plain (entry "lead" "v" ("l" ∷ "iy" ∷ "d" ∷ []) ∷ entry "lead" "n" ("l" ∷ "eh" ∷ "d" ∷ []) ∷ entry "lead" "v" ("l" ∷ "iy" ∷ "d" ∷ []) ∷ []) (bytes "lead") Runtime (map bytes ("l" ∷ "eh" ∷ "d" ∷ [])) refl refl (λ p i d. refl) (omega arith),
                                    (
                                      plain (to_polish ∷ from_poland ∷ []) (bytes "Polish") Runtime (map bytes the_name) refl refl (λ p i d. refl) (omega arith),
                                      (plain (from_poland ∷ to_polish ∷ []) (bytes "POLISH") Runtime (map bytes the_verb) refl refl (λ p i d. refl) (omega arith), tt),
                                    ),
                                  ),
                                ),
                              ),
                            ),
                          ),
                        ),
                      ),
                    ),
                  ),
                ),
              ),
            ),
          ),
        ),
      ),
    ),
  ),
)
