-- Theorems about `specs/SameSource.antt`: 02, S-6: the source of a word that was said is the one that lookup tells of it, or the letter trees where lookup tells none.
-- Assumes nothing.
use Rattle.std.specs.Prelude.{ℕ, ◌*◌, ◌≡◌, refl, List, ltb, length}
use Rattle.std.proofs.Common.{arith, sym, ap, ◌∙◌, subst}
use Rattle.std.proofs.Math.Option.{Option, none, some}
use Rattle.texts.specs.Choice.{cases}
use Rattle.store_spec.specs.Store.{entries}
use Rattle.lts_spec.specs.Letters.{letters, stopped}
use Rattle.lexicon_spec.specs.Lookup.{Finding, nothing, damaged, found, find, wanted_tag, told_finding}
use Rattle.lookup.specs.Lookup.{lookup}
use Rattle.lookup.proofs.LookupLaws.{lookup_on_entries}
use Rattle.utterance_spec.specs.Sheet.{version}
use Rattle.answers.specs.declared.Answer.{Answer}
use Rattle.answers.specs.declared.Source.{Source}
use Rattle.answers.specs.declared.Source.TheVariants.{Runtime, Addenda, Compiled}
use Rattle.answers.specs.Told.{source_number}
use Rattle.pipeline_spec.specs.Pronounced.{Sections, on_finding, pronounced, said}
use Rattle.say_word.specs.SayWord.{say_word}
use Rattle.say_word.proofs.Accepted.{say_law}
use Rattle.say_word.specs.SameSource.{source_by, Sourced, HasPhones, source_in}

-- a source is its own number, never 0
own_number : (s : Source) → source_number s ≡ source_by (source_number s)
own_number Runtime = refl
own_number Addenda = refl
own_number Compiled = refl

-- the finding that both calls come to
by_finding : (f : Finding) (o : Option (List (List ℕ))) (place : ℕ) (out : List ℕ)
    → HasPhones (on_finding f o place) → (told_finding f out).refusal ≡ 0 → source_in (on_finding f o place) ≡ source_by (told_finding f out).kind
by_finding nothing none place out p h = absurd p
by_finding nothing (some ps) place out p h = refl
by_finding damaged o place out p h = absurd p
by_finding (found s ps) o place out p h =
    cases (ltb 96 (length ps))
    (λ t. absurd (rw t at p))
    (λ t. cases (ltb (length out) (16 * length ps))
    (λ u. absurd (omega (arith, (rw (t, u) at h))))
    (λ u. rw (t, u) (own_number s)))

pub same_source : (c : Sections) (store sheet word tag out : List ℕ) → (say_word c store sheet word tag).refusal ≡ 0
    → (lookup c.lex_phones c.lex_index c.lex_data store word tag out).refusal ≡ 0
    → Sourced c store sheet word tag (lookup c.lex_phones c.lex_index c.lex_data store word tag out).kind
unfolding pronounced said
same_source c store sheet word tag out h g =
    let t = say_law c store sheet word tag h in
    let f = find (entries store) c.lex_phones c.lex_index c.lex_data word (wanted_tag tag) in
    let o = letters c.lts_phones c.lts_index c.lts_model word in
    let l = (lookup_on_entries c.lex_phones c.lex_index c.lex_data store word tag out t.tests.lexicon t.tests.sound_store t.tests.texts).0 in
    let k = by_finding f o (stopped word) out (subst HasPhones (sym t.came) tt) (sym (ap (λ (a : Answer). a.refusal) l) ∙ g) in
    record {
      last = said (version sheet) word t.source t.phones;
      reads = t.reads;
      source = sym (ap source_in t.came) ∙ k ∙ ap (λ (a : Answer). source_by a.kind) (sym l);
    }
