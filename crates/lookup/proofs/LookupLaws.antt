-- Theorems about `specs/Lookup.antt`: 01, Lookup: lookup as a call: its refusals 1, 2, 3, 6, 7 and 9, its answer, and the output at exit.
-- Assumes nothing.
use Rattle.std.specs.Prelude.{ℕ, ◌≡◌, true, ◌&&◌, List}
use Rattle.texts.specs.Text.{is_word}
use Rattle.store_spec.specs.Store.{is_sound, entries}
use Rattle.compiled_spec.specs.Lexicon.{is_lexicon}
use Rattle.lexicon_spec.specs.Lookup.{wanted_tag, find, told_finding, out_finding}
use Rattle.lookup.specs.Lookup.{lookup, looked_up}

module _ (phones index dat store word tag : List ℕ) where
  -- lookup on a store's bytes is lookup on its entries
  pub lookup_on_entries : (out : List ℕ) → is_lexicon phones index ≡ true → is_sound store ≡ true → (is_word word && is_word tag) ≡ true
      → (lookup phones index dat store word tag out ≡ told_finding (find (entries store) phones index dat word (wanted_tag tag)) out)
      × (looked_up phones index dat store word tag out ≡ out_finding (find (entries store) phones index dat word (wanted_tag tag)) out)
  unfolding lookup looked_up
  lookup_on_entries out f s w = (rw (f, s, w), rw (f, s, w))
