-- 02, S-10, of any number of add entry calls: two lists of them, all accepted, that start from equal stores and have the calls of each
-- folded word in the same order leave every lookup, and every say word, with equal answers and equal bytes.
-- A lookup reads the entries of its own folded word alone, and these come in the order of the calls that made them.
-- Assumes nothing.
use Rattle.std.specs.Prelude.{ℕ, ◌≡◌, refl, List, [], ◌∷◌, map}
use Rattle.std.proofs.Common.{sym, ap, ◌∙◌}
use Rattle.texts.specs.Text.{folded}
use Rattle.slots_spec.specs.Slot.{Entry}
use Rattle.store_spec.specs.Store.{is_sound, entries}
use Rattle.store_spec.proofs.Sound.{is_sound_lem}
use Rattle.lexicon_spec.specs.Adding.{new_entry}
use Rattle.lexicon_spec.specs.Lookup.{find, wanted_tag}
use Rattle.addtext_spec.specs.Filling.{adding_all}
use Rattle.add_entry.specs.Accepted.{Entered, Taken}
use Rattle.add_entry.proofs.Accepted.{taken, accepted_is, add_law}
use Rattle.lookup.specs.Lookup.{lookup, looked_up}
use Rattle.pipeline_spec.specs.Pronounced.{Sections, pronounced}
use Rattle.say_word.specs.SayWord.{say_word, sheet_after}
use Rattle.entry_order.specs.Calls.{Given, answer, after, after_all, AllAccepted, those, is_call_of, calls_of}
use Rattle.entry_order.proofs.Laws.OfWord.{is_of, those_map, stored_of, find_of_lem, adding_all_of}

-- the entry that a call makes
abbrev pub made : Given → Entry
made g = new_entry g.word g.tag g.phones g.exact

-- what its tests say of an accepted call, and what it leaves
module _ (g : Given) (store : List ℕ) (h : (answer g store).refusal ≡ 0) where
  pub took : Taken g.table store g.word g.tag g.phones g.exact
  took = taken g.table store g.word g.tag g.phones g.exact (accepted_is g.table store g.word g.tag g.phones g.exact h)

  pub entered : Entered store (after g store) (made g)
  entered = add_law g.table store g.word g.tag g.phones g.exact (accepted_is g.table store g.word g.tag g.phones g.exact h)

-- what accepted calls leave
all_sound : (gs : List Given) (store : List ℕ) → AllAccepted gs store → is_sound (after_all gs store) ≡ is_sound store
unfolding after_all
all_sound [] store h = refl
all_sound (g ∷ gs) store h =
    all_sound gs (after g store) h.1
    ∙ is_sound_lem (after g store) (entered g store h.0).sound
    ∙ sym (took g store h.0).passed.stored

all_added : (gs : List Given) (store : List ℕ) → AllAccepted gs store → entries (after_all gs store) ≡ adding_all (map made gs) (entries store)
unfolding after_all adding_all
all_added [] store h = refl
all_added (g ∷ gs) store h = all_added gs (after g store) h.1 ∙ ap (λ (es : List Entry). adding_all (map made gs) es) (entered g store h.0).entries

-- the entries of a folded word are those of its calls
made_of : (w : List ℕ) (gs : List Given) → those (is_of w) (map made gs) ≡ map made (calls_of w gs)
made_of w gs = those_map made (is_of w) (is_call_of w) (λ g. stored_of w g.word g.tag g.phones g.exact) gs

-- the premise: the calls of each folded word stand in both lists in the same order, and none is refused
module _ (ones others : List Given) (store : List ℕ)
    (alike : (w : List ℕ) → calls_of w ones ≡ calls_of w others)
    (a : AllAccepted ones store) (b : AllAccepted others store) where
  same_sound : is_sound (after_all ones store) ≡ is_sound (after_all others store)
  same_sound = all_sound ones store a ∙ sym (all_sound others store b)

  -- of each folded word both stores have the same entries
  same_of : (w : List ℕ) → those (is_of w) (entries (after_all ones store)) ≡ those (is_of w) (entries (after_all others store))
  same_of w =
      ap (those (is_of w)) (all_added ones store a)
      ∙ adding_all_of w (map made ones) (entries store)
      ∙ ap (λ (new : List Entry). adding_all new (those (is_of w) (entries store))) (made_of w ones ∙ ap (map made) (alike w) ∙ sym (made_of w others))
      ∙ sym (adding_all_of w (map made others) (entries store))
      ∙ ap (those (is_of w)) (sym (all_added others store b))

  same_finding : (phones index dat word : List ℕ) (tag : ℕ)
      → find (entries (after_all ones store)) phones index dat word tag ≡ find (entries (after_all others store)) phones index dat word tag
  same_finding phones index dat word tag =
      sym (find_of_lem (entries (after_all ones store)) phones index dat word tag)
      ∙ ap (λ (es : List Entry). find es phones index dat word tag) (same_of (map folded word))
      ∙ find_of_lem (entries (after_all others store)) phones index dat word tag

  -- lookup: the answer, and every byte of the output
  pub any_order : (phones index dat word tag out : List ℕ)
      → (lookup phones index dat (after_all ones store) word tag out ≡ lookup phones index dat (after_all others store) word tag out)
      × (looked_up phones index dat (after_all ones store) word tag out ≡ looked_up phones index dat (after_all others store) word tag out)
  unfolding lookup looked_up
  any_order phones index dat word tag out =
      let f = same_finding phones index dat word (wanted_tag tag) in
      (rw (same_sound, f), rw (same_sound, f))

  -- say word: the answer, and every byte of the sheet
  pub any_order_said : (c : Sections) (sheet word tag : List ℕ)
      → (say_word c (after_all ones store) sheet word tag ≡ say_word c (after_all others store) sheet word tag)
      × (sheet_after c (after_all ones store) sheet word tag ≡ sheet_after c (after_all others store) sheet word tag)
  unfolding say_word sheet_after pronounced
  any_order_said c sheet word tag =
      let f = same_finding c.lex_phones c.lex_index c.lex_data word (wanted_tag tag) in
      (rw (same_sound, f), rw (same_sound, f))
