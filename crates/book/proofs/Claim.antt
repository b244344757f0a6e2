-- Theorems about `specs/Claim.antt`: 01, demand 3, and 02, S-9: what is claimed of a store and a sheet, with the entries, the words and the version of the book; a sound store that has
-- these entries, and a sound sheet that reads as these words and has this version, are as claimed.
-- Assumes nothing.
use Rattle.std.specs.Prelude.{ℕ, ◌+◌, ◌≡◌, refl, List, [], ◌∷◌, ◌++◌, map, length}
use Rattle.std.proofs.Common.{arith, sym, ap, ◌∙◌}
use Rattle.std.proofs.lemmas.List.{map-append}
use Rattle.records.specs.Chain.{all_map, only}
use Rattle.records.specs.Counted.{Within}
use Rattle.slots_spec.specs.Slot.{Entry}
use Rattle.store_spec.specs.Store.{next, used as used_slots, entry_at, entries}
use Rattle.store_spec.specs.Sound.{Slot, Sound as SoundStore}
use Rattle.store_spec.proofs.Sound.{entries_are}
use Rattle.items_spec.specs.Item.{Item}
use Rattle.utterance_spec.specs.Tree.{Word, Page, SyllableAt, WordAt, phones_in as phones_under, phones_at, items_at, text_at, syllable_at, word_at}
use Rattle.utterance_spec.specs.Sheet.{at, used, page_at, page}
use Rattle.utterance_spec.specs.Sound.{Placed, Sound}
use Rattle.utterance_spec.proofs.Read.{tree_read, reading_is}
use Rattle.utterance_spec.proofs.MetLaws.{phone_met, phones_once}
use Rattle.book.specs.WellCut.{groups_of, together, phones_in, WellCut}
use Rattle.book.specs.Claim.{Each, word_phones, Holds, Tells}

-- the texts of the phone items are the words' phones
module _ (S : ℕ → Item) where
  syllables_told : (ys : List SyllableAt) → map (text_at S) (phones_under ys) ≡ together (groups_of (map (syllable_at S) ys))
  syllables_told [] = refl
  syllables_told (y ∷ ys) = map-append (text_at S) y.phones (phones_under ys) ∙ ap (λ (l : List (List ℕ)). map (text_at S) y.phones ++ l) (syllables_told ys)

  words_told : (ws : List WordAt) → map (text_at S) (phones_at ws) ≡ word_phones (map (word_at S) ws)
  words_told [] = refl
  words_told (w ∷ ws) =
      map-append (text_at S) (phones_under w.syllables) (phones_at ws)
      ∙ ap (λ (l : List (List ℕ)). l ++ map (text_at S) (phones_at ws)) (syllables_told w.syllables)
      ∙ ap (λ (l : List (List ℕ)). phones_in (word_at S w) ++ l) (words_told ws)

pub holds : (store : List ℕ) (es : List Entry) → SoundStore store → entries store ≡ es → Holds store es
holds store es s e =
    record {
      sound = s;
      slots = s.chained;
      linked = s.linked;
      inside = all_map (Slot store) (Within (used_slots store)) s.chained (λ n p. let r = p.real in (omega arith, p.inside)) s.each;
      holds = sym (entries_are store s) ∙ e;
    }

pub tells : (sheet : List ℕ) (p : Page) → Sound sheet → page sheet ≡ p → Each WellCut p.words → Tells sheet p
unfolding page
tells sheet p s r h =
    let e : page_at sheet s.words ≡ p = sym (ap (λ (ws : List Word). record { version = (at sheet 0).stress; state = (at sheet 0).mark; words = ws }) (reading_is sheet s)) ∙ r in
    record {
      sound = s;
      places = s.words;
      tree = s.tree;
      inside = all_map (Placed sheet) (Within (used sheet)) (items_at s.words) (λ n p. let r = p.real in (omega arith, p.inside)) s.each;
      reads = e;
      met = phone_met sheet s;
      once = phones_once sheet s;
      onwards = s.onwards;
      backwards = s.backwards;
      told = words_told (at sheet) s.words ∙ ap (λ (q : Page). word_phones q.words) e;
      cut = h;
    }

-- no store holds the entries of two books, and no sheet reads as two pages
pub one_holding : (store : List ℕ) (ds es : List Entry) → Holds store ds → Holds store es → ds ≡ es
one_holding store ds es a b =
    sym a.holds ∙ ap (λ (ns : List ℕ). map (entry_at store) ns) (only (next store) 0 a.slots b.slots a.linked b.linked) ∙ b.holds

pub one_telling : (sheet : List ℕ) (p q : Page) → Tells sheet p → Tells sheet q → p ≡ q
one_telling sheet p q a b =
    let n : ℕ = length (items_at a.places) + length (items_at b.places) in
    let e : a.places ≡ b.places = sym (tree_read (at sheet) n a.places a.tree (omega arith)) ∙ tree_read (at sheet) n b.places b.tree (omega arith) in
    sym a.reads ∙ ap (page_at sheet) e ∙ b.reads
