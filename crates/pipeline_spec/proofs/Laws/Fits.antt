-- What is pronounced fits: it has a source, each phone has at most 15 bytes, all below 128; a digit that is taken off is a stress of the version.
-- Assumes nothing.
use Rattle.std.specs.Prelude.{ℕ, ◌≡◌, refl, true, List, ltb, length}
use Rattle.std.proofs.Common.{sym, ◌∙◌}
use Rattle.std.proofs.Math.Path.{subst}
use Rattle.std.proofs.Math.Option.{Option, none, some}
use Rattle.texts.specs.Choice.{cases}
use Rattle.texts.specs.Lists.{every}
use Rattle.texts.specs.Text.{is_phone}
use Rattle.versions.specs.Versions.{digits, is_stress}
use Rattle.phoneset.specs.Stress.{is_stressed, stress, stressed_by}
use Rattle.items_spec.specs.Item.{is_source}
use Rattle.slots_spec.specs.Slot.{Entry, fits}
use Rattle.lts_spec.specs.Letters.{letters, stopped, is_trees}
use Rattle.lts_spec.proofs.Letters.{trees_table}
use Rattle.compiled_spec.specs.Lexicon.{is_lexicon}
use Rattle.compiled_spec.proofs.Lexicon.{lexicon_table}
use Rattle.answers.specs.declared.Source.{Source}
use Rattle.answers.specs.declared.Source.TheVariants.{Runtime, Addenda, Compiled}
use Rattle.answers.specs.Told.{source_number}
use Rattle.lexicon_spec.specs.Lookup.{Finding, nothing, damaged, found, find, wanted_tag}
use Rattle.pipeline_spec.specs.Pronounced.{Sections, Spoken, barred, phones, on_finding, pronounced}
use Rattle.pipeline_spec.proofs.Laws.Sources.{Fit, find_fit}
use Rattle.lts_spec.specs.FewPhones.{AreFit}
use Rattle.lts_spec.proofs.FewPhones.{letters_fit}

-- a digit that is taken off is a stress
pub digit : (v : ℕ) (p : List ℕ) → is_stressed (digits v) p ≡ true → is_stress v (stress (digits v) p) ≡ true
unfolding stress
digit v p h = rw h (sym (stressed_by v p) ∙ h)

-- what was pronounced
abbrev Fits : Spoken → Type 0
Fits (barred n) = Unit {0}
Fits (phones source place ps) = (is_source source ≡ true) × (every is_phone ps ≡ true)

letters_spoken : (o : Option (List (List ℕ))) (place : ℕ) → AreFit o → Fits (on_finding nothing o place)
unfolding is_source
letters_spoken none place h = tt
letters_spoken (some ps) place h = (refl, h)

found_source : (s : Source) → is_source (source_number s) ≡ true
unfolding is_source
found_source Runtime = refl
found_source Addenda = refl
found_source Compiled = refl

-- a refused lookup is never sent to the letter trees
refused_lookup : (o : Option (List (List ℕ))) (place : ℕ) → on_finding damaged o place ≡ barred 6
refused_lookup o place = refl

finding_spoken : (f : Finding) (o : Option (List (List ℕ))) (place : ℕ) → Fit f → AreFit o → Fits (on_finding f o place)
finding_spoken nothing o place h k = letters_spoken o place k
finding_spoken damaged o place h k = subst Fits (sym (refused_lookup o place)) tt
finding_spoken (found s ps) o place h k = cases (ltb 96 (length ps)) (λ e. rw e tt) (λ e. rw e (found_source s, h))

module _ (c : Sections) (es : List Entry) (word tag : List ℕ) (h : every fits es ≡ true) (lexicon : is_lexicon c.lex_phones c.lex_index ≡ true) (trees : is_trees c.lts_phones c.lts_index c.lts_model ≡ true) where
  spoken_fits : (source place : ℕ) (ps : List (List ℕ)) → pronounced c es word tag ≡ phones source place ps
      → (is_source source ≡ true) × (every is_phone ps ≡ true)
  unfolding pronounced
  spoken_fits source place ps e =
      subst Fits e
      (finding_spoken (find es c.lex_phones c.lex_index c.lex_data word (wanted_tag tag)) (letters c.lts_phones c.lts_index c.lts_model word) (stopped word)
      (find_fit es c.lex_phones c.lex_index c.lex_data word (wanted_tag tag) h (lexicon_table c.lex_phones c.lex_index lexicon))
      (letters_fit c.lts_phones c.lts_index c.lts_model (trees_table c.lts_phones c.lts_index c.lts_model trees) word))

  pub pronounced_source : (source place : ℕ) (ps : List (List ℕ)) → pronounced c es word tag ≡ phones source place ps → is_source source ≡ true
  pronounced_source source place ps e = (spoken_fits source place ps e).0

  pub pronounced_fits : (source place : ℕ) (ps : List (List ℕ)) → pronounced c es word tag ≡ phones source place ps → every is_phone ps ≡ true
  pronounced_fits source place ps e = (spoken_fits source place ps e).1
