-- An entry whose texts and count pass the tests fits into a slot.
-- Assumes nothing.
use Rattle.std.specs.Prelude.{ℕ, ◌+◌, ◌/◌, ◌≤◌, ◌≡◌, refl, Bool, true, false, ◌&&◌, ◌||◌, List, [], ◌∷◌, map, leb, length, get_or}
use Rattle.std.proofs.Common.{arith, ◌∙◌, leb-true, lt-ltb}
use Rattle.std.proofs.lemmas.List.{length-map}
use Rattle.texts.specs.Choice.{both_true, cases}
use Rattle.texts.specs.Lists.{every}
use Rattle.texts.specs.Text.{bytes, folded, low, ascii, is_word, same}
use Rattle.cells.specs.Cells.{ascii_phones, length_phones_of}
use Rattle.slots_spec.specs.Slot.{Fits, is_folded}
use Rattle.slots_spec.proofs.Slot.{folded_small, phones_fit}
use Rattle.store_spec.specs.Adding.{entry_for}
use Rattle.lexicon_spec.specs.Adding.{added_tag, stored_word, new_entry}

-- folding keeps a byte below 128
fold_low : (b : ℕ) → low b ≡ true → low (folded b) ≡ true
unfolding low folded
fold_low b h =
    cases (leb 65 b && leb b 90)
    (λ e. let k = leb-true b 90 (both_true (leb 65 b) (leb b 90) e).1 in rw e (lt-ltb (b + 32) 128 (omega arith)))
    (λ e. rw e h)

fold_ascii : (w : List ℕ) → ascii w ≡ true → ascii (map folded w) ≡ true
unfolding ascii every
fold_ascii [] h = refl
fold_ascii (x ∷ xs) h = let b = both_true (low x) (every low xs) h in rw (fold_low x b.0) (fold_ascii xs b.1)

pub fold_word : (w : List ℕ) → is_word w ≡ true → is_word (map folded w) ≡ true
unfolding is_word
fold_word w h = let b = both_true (leb (length w) 47) (ascii w) h in rw (length-map w folded, b.0) (fold_ascii w b.1)

head_low : (tag : List ℕ) → ascii tag ≡ true → low (get_or tag 0 48) ≡ true
unfolding ascii every low
head_low [] h = refl
head_low (x ∷ xs) h = (both_true (low x) (every low xs) h).0

-- the tag that an entry gets is below 128
pub tag_low : (tag : List ℕ) → is_word tag ≡ true → low (added_tag tag) ≡ true
unfolding added_tag is_word low
tag_low tag h = cases (same tag (bytes "nil")) (λ e. rw e) (λ e. rw e (head_low tag (both_true (leb (length tag) 47) (ascii tag) h).1))

-- a word as it is stored is a word, and folded unless it is exact
stored_word_lem : (exact : Bool) (w : List ℕ) → is_word w ≡ true → is_word (stored_word exact w) ≡ true
unfolding stored_word
stored_word_lem true w h = h
stored_word_lem false w h = fold_word w h

stored_small : (exact : Bool) (w : List ℕ) → (exact || is_folded (stored_word exact w)) ≡ true
unfolding stored_word
stored_small true w = refl
stored_small false w = folded_small w

-- what an entry must be to be added
pub new_fits : (word tag phones : List ℕ) (exact : Bool) → (is_word word && is_word tag && ascii_phones phones) ≡ true → length phones / 16 ≤ 24
    → Fits (new_entry word tag phones exact)
unfolding new_entry entry_for
new_fits word tag phones exact h few =
    let a = both_true (is_word word && is_word tag) (ascii_phones phones) h in
    let b = both_true (is_word word) (is_word tag) a.0 in
    let n = length_phones_of phones in
    record {
      low_tag = tag_low tag b.1;
      a_word = stored_word_lem exact word b.0;
      small = stored_small exact word;
      few = omega arith;
      texts = phones_fit phones ∙ a.1;
    }
