-- Theorems about `specs/Exact.antt`: 02, S-8: what an exact entry changes, and that without one all is as 01 has it.
-- Assumes nothing.
use Rattle.std.specs.Prelude.{ℕ, ◌≡◌, refl, Bool, false, not, ◌&&◌}
use Rattle.std.proofs.Math.Bool.{true}
use mathlib.Core.List.{List, [], ◌∷◌, map}
use Rattle.std.proofs.Math.Option.{none, some, or_else}
use Rattle.std.proofs.lemmas.Bool.{not-true}
use Rattle.texts.specs.Choice.{both_true, cases}
use Rattle.texts.specs.Lists.{every, first, every_append}
use Rattle.texts.specs.Text.{folded}
use Rattle.addenda.specs.Addenda.{addenda}
use Rattle.addenda.specs.Find.{is_meant}
use Rattle.slots_spec.specs.Slot.{Entry, is_ordinary}
use Rattle.store_spec.specs.Store.{is_wanted, same_key}
use Rattle.store_spec.specs.Adding.{entry_for, without, adding}
use Rattle.store_spec.proofs.Laws.Keys.{wanted_true}
use Rattle.lexicon_spec.specs.Adding.{stored_word, new_entry}
use Rattle.lexicon_spec.specs.Lookup.{chosen_entry, on_entry, on_row, from_compiled, find}
use Rattle.lexicon_spec.specs.Exact.{matches, same_word_and_tag}

-- an exact entry is stored as it was given, and says that it is exact
pub exact_stored : (word tag phones : List ℕ) → ((new_entry word tag phones true).word ≡ word) × ((new_entry word tag phones true).exact ≡ true)
unfolding new_entry stored_word entry_for
exact_stored word tag phones = (refl, refl)

-- an exact entry matches only the word's own bytes
pub exact_bytes : (any : Bool) (word : List ℕ) (tag : ℕ) (e : Entry) → is_wanted true any word tag e ≡ true → (e.exact ≡ true) × (e.word ≡ word)
exact_bytes any word tag e h = let w = wanted_true true any word tag e h in (w.0, w.1)

-- the oldest one that matches is preferred to an ordinary one of any age
pub exact_preferred : (es : List Entry) (word : List ℕ) (tag : ℕ) (e : Entry) → first (is_wanted true true word tag) es ≡ some e
    → chosen_entry es word tag ≡ some e
unfolding chosen_entry or_else
exact_preferred es word tag e h = rw h

-- failing one, the oldest ordinary one is chosen
pub ordinary_next : (es : List Entry) (word : List ℕ) (tag : ℕ) → first (is_wanted true true word tag) es ≡ none
    → chosen_entry es word tag ≡ first (is_wanted false true (map folded word) tag) es
unfolding chosen_entry or_else
ordinary_next es word tag h = rw h

-- of ordinary entries none is wanted as exact, and those that 01 matches are wanted
pub none_exact : (word : List ℕ) (tag : ℕ) (es : List Entry) → every is_ordinary es ≡ true → first (is_wanted true true word tag) es ≡ none
unfolding every first is_ordinary is_wanted
none_exact word tag [] h = refl
none_exact word tag (e ∷ es) h =
    let b = both_true (not e.exact) (every is_ordinary es) h in
    rw (not-true e.exact b.0) (none_exact word tag es b.1)

as_matched : (word : List ℕ) (tag : ℕ) (es : List Entry) → every is_ordinary es ≡ true
    → first (is_wanted false true (map folded word) tag) es ≡ first (matches word tag) es
unfolding every first is_ordinary is_wanted matches
as_matched word tag [] h = refl
as_matched word tag (e ∷ es) h =
    let b = both_true (not e.exact) (every is_ordinary es) h in
    rw (not-true e.exact b.0, as_matched word tag es b.1)

module _ (es : List Entry) (ordinary : every is_ordinary es ≡ true) where
  -- without exact entries, the entry chosen is the oldest that 01 matches
  pub chosen_ordinary : (word : List ℕ) (tag : ℕ) → chosen_entry es word tag ≡ first (matches word tag) es
  unfolding chosen_entry or_else
  chosen_ordinary word tag = rw (none_exact word tag es ordinary, as_matched word tag es ordinary)

  -- and a word comes to what it came to
  pub find_ordinary : (phones index dat word : List ℕ) (tag : ℕ)
      → find es phones index dat word tag
      ≡ on_entry (first (matches word tag) es) (on_row (first (is_meant word tag) addenda) (from_compiled phones index dat word tag))
  unfolding find
  find_ordinary phones index dat word tag = rw (chosen_ordinary word tag)

  -- adding an ordinary entry leaves ordinary ones only
  pub adding_ordinary : (e : Entry) → is_ordinary e ≡ true → every is_ordinary (adding e es) ≡ true
  unfolding adding every without
  adding_ordinary e h = rw (every_append is_ordinary (without e es) (e ∷ [])) (go es ordinary)
    where
      go : (xs : List Entry) → every is_ordinary xs ≡ true → (every is_ordinary (without e xs) && every is_ordinary (e ∷ [])) ≡ true
      go [] k = rw h
      go (x ∷ xs) k =
          let b = both_true (is_ordinary x) (every is_ordinary xs) k in
          let ih = go xs b.1 in
          cases (same_key e x) (λ s. rw s ih) (λ s. rw (s, b.0) ih)

-- and two ordinary entries are the same as in 01
pub key_ordinary : (a b : Entry) → is_ordinary a ≡ true → is_ordinary b ≡ true → same_key a b ≡ same_word_and_tag a b
unfolding is_ordinary same_key is_wanted same_word_and_tag
key_ordinary a b h k = rw (not-true a.exact h, not-true b.exact k)
