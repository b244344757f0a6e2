-- Theorems about `specs/WrongSheets.antt`: Sheets that tell no book: reading or a chain of phones does not come to 0 within items 1 to used, though walked for `used` steps they would pass;
-- a word has no source (02, S-6), the sheet no known version, or a syllable a stress that its version has not (02, S-9). With the one byte put right each tells a book.
-- Assumes nothing.
use Rattle.std.specs.Prelude.{ℕ, ◌≡◌, refl, ◌≢◌, true, List, [], ◌∷◌, reverse, length}
use Rattle.std.proofs.Common.{arith, sym, ap, ◌∙◌, subst}
use Rattle.texts.specs.Choice.{never}
use Rattle.texts.specs.Lists.{every, some as any_of, place}
use Rattle.texts.specs.Text.{is, low, ascii, is_word, same}
use Rattle.records.specs.Fields.{u16_at}
use Rattle.records.specs.Records.{record_at}
use Rattle.records.specs.Chain.{All, Linked, chain}
use Rattle.records.specs.Counted.{Within}
use Rattle.versions.specs.Versions.{is_sheet_version, digits, is_stress}
use Rattle.items_spec.specs.Item.{item, item_of, is_clean, is_source, is_word_item, is_syllable_item, is_phone_item, is_head_item, fits, is_item, is_head}
use Rattle.phoneset.specs.Phones.{phones, row_of, is_vowel}
use Rattle.syllabify.specs.Syllables.{vowels}
use Rattle.utterance_spec.specs.Tree.{Word, Page, WordAt, words_at, phones_at, items_at, sibling, follow, prev, places}
use Rattle.utterance_spec.specs.Sheet.{at, used, reading, page, is_sheet_length, after, beyond, after_phone, after_syllable, is_parent, is_sibling, is_sung, is_chained, is_placed, walks, order, is_sound}
use Rattle.utterance_spec.specs.Sound.{Placed}
use Rattle.utterance_spec.proofs.Decided.{sound, is_sound_lem}
use Rattle.book.specs.WellCut.{WellCut}
use Rattle.book.specs.Claim.{Tells}
use Rattle.book.proofs.Claim.{tells, one_telling}
use Rattle.book.specs.WrongSheets.{no_words, one_word, comma, page_one, one_syllable, secondary}

-- where no item is used, none is met
none_met : (b : List ℕ) (ws : List WordAt) → used b ≡ 0 → All (Within (used b)) (items_at ws) → ws ≡ []
none_met b [] u a = refl
none_met b (w ∷ ws) u a = let i = a.0 in absurd (omega arith)

-- a record that is its own next stands in no chain that ends
own_next : (f : ℕ → ℕ) (p : ℕ) (xs : List ℕ) → f p ≡ p → p ≢ 0 → Linked f p xs → ⊥
own_next f p [] e n l = n (sym e ∙ l)
own_next f p (x ∷ xs) e n l = let q : x ≡ p = sym l.0 ∙ e in own_next f x xs (ap f q ∙ e ∙ sym q) l.1 l.2

-- the first word is item 1, though no item is used
past_walked : reading (no_words 1 1 0 0) ≡ []
unfolding reading places at item_of record_at u16_at chain
past_walked = refl

pub past_used : (said : Page) → Tells (no_words 1 1 0 0) said → ⊥
unfolding sibling at item_of record_at u16_at
past_used said t =
    let e = none_met (no_words 1 1 0 0) t.places refl t.inside in
    let l : Linked (sibling (at (no_words 1 1 0 0)) 0) 0 [] = subst (λ (ws : List WordAt). Linked (sibling (at (no_words 1 1 0 0)) 0) 0 (words_at ws)) e t.tree.top.linked in
    absurd (omega (arith, l))

-- the only word is its own next sibling
own_walked : reading (one_word 1 2) ≡ comma 2 ∷ []
unfolding reading places at item_of record_at u16_at chain sibling
own_walked = refl

pub own_sibling : (said : Page) → Tells (one_word 1 2) said → ⊥
unfolding sibling at item_of record_at u16_at
own_sibling said t = go t.places t.tree.top.linked
  where
    go : (ws : List WordAt) → Linked (sibling (at (one_word 1 2)) 0) 0 (words_at ws) → ⊥
    go [] l = absurd (omega (arith, l))
    go (w ∷ ws) l =
        let q : w.at ≡ 1 = sym l.0 in
        own_next (sibling (at (one_word 1 2)) 0) w.at (words_at ws) (rw q) l.1 l.2

-- the first phone, or the last one, is item 1, though no item is used
first_walked : chain (follow (at (no_words 1 0 0 1))) (used (no_words 1 0 0 1)) 0 ≡ []
unfolding at item_of record_at u16_at chain
first_walked = refl

pub first_phone : (said : Page) → Tells (no_words 1 0 0 1) said → ⊥
unfolding follow at item_of record_at u16_at
first_phone said t =
    let e = none_met (no_words 1 0 0 1) t.places refl t.inside in
    let l : Linked (follow (at (no_words 1 0 0 1))) 0 [] = subst (λ (ws : List WordAt). Linked (follow (at (no_words 1 0 0 1))) 0 (phones_at ws)) e t.onwards in
    absurd (omega (arith, l))

last_walked : chain (prev (at (no_words 1 0 1 0))) (used (no_words 1 0 1 0)) 0 ≡ []
unfolding at item_of record_at u16_at chain
last_walked = refl

pub last_phone_lem : (said : Page) → Tells (no_words 1 0 1 0) said → ⊥
unfolding prev at item_of record_at u16_at
last_phone_lem said t =
    let e = none_met (no_words 1 0 1 0) t.places refl t.inside in
    let l : Linked (prev (at (no_words 1 0 1 0))) 0 [] = subst (λ (ws : List WordAt). Linked (prev (at (no_words 1 0 1 0))) 0 (reverse (phones_at ws))) e t.backwards in
    absurd (omega (arith, l))

-- the only word has no source
pub no_source_lem : (said : Page) → Tells (one_word 0 0) said → ⊥
unfolding at is_item fits is_word_item is_source is_word is_clean item_of record_at u16_at ascii low every is
no_source_lem said t = go (items_at t.sound.words) t.sound.all t.sound.each
  where
    go : (xs : List ℕ) → length xs ≡ used (one_word 0 0) → All (Placed (one_word 0 0)) xs → ⊥
    go [] l a = absurd (omega (arith, l))
    go (x ∷ xs) l a =
        let p = a.0 in
        let e : x ≡ 1 = omega (arith, p.real, p.inside) in
        never (is_item (record_at 64 (one_word 0 0) 1)) (subst (λ (n : ℕ). is_item (record_at 64 (one_word 0 0) n) ≡ true) e p.sound) refl

-- phones that are none are well cut
comma_cut : (source : ℕ) → WellCut (comma source)
unfolding vowels
comma_cut source = record { vowelled = λ p v. absurd (omega (arith, v)); vowelless = λ p v l. absurd (omega (arith, l)) }

-- a syllable with one vowel is
secondary_cut : WellCut secondary
unfolding vowels is_vowel row_of phones any_of same every place
secondary_cut = record { vowelled = λ p v. refl; vowelless = λ p v l. absurd (omega (arith, v)) }

-- the source of the first word, 0 if there is none
first_source : List Word → ℕ
first_source [] = 0
first_source (w ∷ ws) = w.source

-- the only word has another source than in the book
pub other_source : Tells (one_word 0 3) (page_one (comma 2 ∷ [])) → ⊥
unfolding page reading places at item_of record_at u16_at chain sibling first_source
other_source t =
    let own = tells (one_word 0 3) (page_one (comma 3 ∷ [])) t.sound refl (comma_cut 3, tt) in
    let e : ◌≡◌ {A = ℕ} 2 3 = ap (λ (p : Page). first_source p.words) (one_telling (one_word 0 3) (page_one (comma 2 ∷ [])) (page_one (comma 3 ∷ [])) t own) in
    absurd (omega (arith, e))

-- the sheet has no known version, as those of before 02 had none
pub no_version : (said : Page) → Tells (no_words 0 0 0 0) said → ⊥
unfolding is_head is_head_item is_sheet_version is_clean item_of record_at u16_at every is
no_version said t = never (is_head (record_at 64 (no_words 0 0 0 0) 0)) t.sound.head refl

-- or another one than the book
pub other_version : Tells (no_words 2 0 0 0) (page_one []) → ⊥
unfolding at item_of record_at
other_version t =
    let e : ◌≡◌ {A = ℕ} 2 1 = ap (λ (p : Page). p.version) t.reads in
    absurd (omega (arith, e))

-- a syllable has the stress "2", which version 1 has not
pub secondary_in_one : (said : Page) → Tells (one_syllable 1) said → ⊥
unfolding item is_sound is_sheet_length is_sheet_version is_stress digits any_of is_head is_head_item is_item is_source is_word_item is_syllable_item is_phone_item is_word is_clean is_placed is_parent is_sibling is_sung is_chained walks order after beyond after_phone after_syllable chain fits at item_of record_at u16_at ascii low every is
secondary_in_one said t = never (is_sound (one_syllable 1)) (is_sound_lem (one_syllable 1) t.sound) refl

-- with that byte put right each tells a book
pub no_words_lem : Tells (no_words 1 0 0 0) (page_one [])
unfolding is_sound is_sheet_length is_sheet_version is_head is_head_item is_clean is_parent is_chained walks order after beyond page reading places chain at item_of record_at u16_at every is
no_words_lem = tells (no_words 1 0 0 0) (page_one []) (sound (no_words 1 0 0 0) refl) refl tt

pub one_word_lem : Tells (one_word 0 2) (page_one (comma 2 ∷ []))
unfolding is_sound is_sheet_length is_sheet_version is_head is_head_item is_item is_source is_word_item is_word is_clean is_placed is_parent is_sibling is_sung is_chained walks order after beyond page reading places chain sibling fits at item_of record_at u16_at ascii low every is
one_word_lem = tells (one_word 0 2) (page_one (comma 2 ∷ [])) (sound (one_word 0 2) refl) refl (comma_cut 2, tt)

pub one_syllable_told : Tells (one_syllable 2) (record { version = 2; state = 0; words = secondary ∷ [] })
unfolding item is_sound is_sheet_length is_sheet_version is_stress digits any_of is_head is_head_item is_item is_source is_word_item is_syllable_item is_phone_item is_word is_clean is_placed is_parent is_sibling is_sung is_chained walks order after beyond after_phone after_syllable page reading places chain sibling fits at item_of record_at u16_at ascii low every is
one_syllable_told = tells (one_syllable 2) (record { version = 2; state = 0; words = secondary ∷ [] }) (sound (one_syllable 2) refl) refl (secondary_cut, tt)
