-- Theorems about `specs/Laws/ChosenSource.antt`: A chosen source that is none sends the word to the letter trees: a word by the answer of its lookup, in a room of 96 cells.
-- Assumes nothing.
use Rattle.std.specs.Prelude.{ℕ, ◌*◌, ◌≤◌, ◌<◌, ◌≡◌, refl, false, Ok, Err, Option, None, Some, List, ltb, length}
use Rattle.std.proofs.Common.{arith, ap, ltb-false, le-ltb}
use Rattle.std.proofs.Math.Option.{Option as Letters, none, some}
use Rattle.texts.specs.Choice.{cases}
use Rattle.answers.specs.declared.Answer.{Answer}
use Rattle.answers.specs.declared.Refusal.{Refusal}
use Rattle.answers.specs.declared.Source.{Source}
use Rattle.answers.specs.declared.Source.TheVariants.{Runtime, Addenda, Compiled}
use Rattle.answers.specs.declared.Found.{Found}
use Rattle.answers.specs.Told.{refusal_number, source_number, refused, accepted, told_looked}
use Rattle.answers.specs.Laws.Numbers.{never_accepted}
use Rattle.lts_spec.specs.Call.{told_phones, out_phones}
use Rattle.slots_spec.specs.Slot.{Entry}
use Rattle.lts_spec.specs.Letters.{letters, stopped}
use Rattle.lexicon_spec.specs.Lookup.{Finding, nothing, damaged, found, find, wanted_tag, told_finding, out_finding}
use Rattle.pipeline_spec.specs.Pronounced.{Sections, on_letters, on_finding, pronounced}
use Rattle.pipeline_spec.specs.Cutting.{told_spoken, cells_spoken}
use Rattle.lts_spec.specs.FewPhones.{Few}
use Rattle.lts_spec.proofs.FewPhones.{letters_few}
use Rattle.pipeline_spec.specs.Laws.ChosenSource.{by_letters, told_behind, room_behind}

-- no source has the number 0
source_number_lem : (s : Source) → 0 < source_number s
source_number_lem Runtime = omega arith
source_number_lem Addenda = omega arith
source_number_lem Compiled = omega arith

-- 96 cells hold all phones of a finding that are not too many
holds : (room : List ℕ) (ps : List (List ℕ)) → length room ≡ 1536 → ltb 96 (length ps) ≡ false → ltb (length room) (16 * length ps) ≡ false
holds room ps l t = let n = ltb-false 96 (length ps) t in le-ltb (length room) (16 * length ps) (omega arith)

-- a refused lookup refuses the word
pub lookup_refused : (f : Finding) (o : Letters (List (List ℕ))) (place : ℕ) (room : List ℕ) → length room ≡ 1536 → (r : Refusal) → told_looked (Err r) ≡ told_finding f room
    → (refused (refusal_number r) 0 ≡ told_spoken (on_finding f o place)) × (out_finding f room ≡ cells_spoken (on_finding f o place) room)
lookup_refused nothing o place room l r e = never_accepted r 0 0 0 e
lookup_refused damaged o place room l r e = (e, refl)
lookup_refused (found s ps) o place room l r e =
    cases (ltb 96 (length ps))
    (λ t. let z : refused (refusal_number r) 0 ≡ refused 7 0 = rw t at e in (rw t z, rw t))
    (λ t. never_accepted r 0 (source_number s) (length ps) (rw (t, holds room ps l t) at e))

-- and all phones of 47 letters
letters_held : (m : ℕ) (o : Letters (List (List ℕ))) (place : ℕ) (room : List ℕ) → length room ≡ 1536 → m ≤ 47 → Few (2 * m) o
    → (by_letters (told_phones o place room) ≡ told_spoken (on_letters o place)) × (out_phones o place room ≡ cells_spoken (on_letters o place) room)
letters_held m none place room l k h = (refl, refl)
letters_held m (some ps) place room l k h = let t = le-ltb (length room) (16 * length ps) (omega arith) in (rw t, rw t)

-- after any other lookup the word is what comes behind it
pub lookup_followed : (f : Finding) (m : ℕ) (o : Letters (List (List ℕ))) (place : ℕ) (room : List ℕ) → length room ≡ 1536 → m ≤ 47 → Few (2 * m) o → (a : Option Found) → told_looked (Ok a) ≡ told_finding f room
    → (told_behind a o place (out_finding f room) ≡ told_spoken (on_finding f o place)) × (room_behind a o place (out_finding f room) ≡ cells_spoken (on_finding f o place) room)
lookup_followed nothing m o place room l k h None e = letters_held m o place room l k h
lookup_followed nothing m o place room l k h (Some x) e = absurd (omega (arith, source_number_lem x.source, ap (λ (a : Answer). a.kind) e))
lookup_followed damaged m o place room l k h None e = absurd (omega (arith, ap (λ (a : Answer). a.refusal) e))
lookup_followed damaged m o place room l k h (Some x) e = absurd (omega (arith, ap (λ (a : Answer). a.refusal) e))
lookup_followed (found s ps) m o place room l k h None e =
    cases (ltb 96 (length ps))
    (λ t. let y : accepted 0 0 ≡ refused 7 0 = rw t at e in absurd (omega (arith, ap (λ (a : Answer). a.refusal) y)))
    (λ t. let y : accepted 0 0 ≡ accepted (source_number s) (length ps) = rw (t, holds room ps l t) at e in absurd (omega (arith, source_number_lem s, ap (λ (a : Answer). a.kind) y)))
lookup_followed (found s ps) m o place room l k h (Some x) e =
    cases (ltb 96 (length ps))
    (λ t. let y : accepted (source_number x.source) x.phones ≡ refused 7 0 = rw t at e in absurd (omega (arith, ap (λ (a : Answer). a.refusal) y)))
    (λ t. let c = holds room ps l t in
    let y : accepted (source_number x.source) x.phones ≡ accepted (source_number s) (length ps) = rw (t, c) at e in
    (rw t y, rw (t, c)))

-- so for what a word comes to, by what its lookup found
module _ (c : Sections) (es : List Entry) (word tag room : List ℕ) (l : length room ≡ 1536) where
  abbrev pub finding : Finding
  finding = find es c.lex_phones c.lex_index c.lex_data word (wanted_tag tag)

  pub word_refused : (r : Refusal) → told_looked (Err r) ≡ told_finding finding room
      → (refused (refusal_number r) 0 ≡ told_spoken (pronounced c es word tag)) × (out_finding finding room ≡ cells_spoken (pronounced c es word tag) room)
  unfolding pronounced
  word_refused r e = lookup_refused finding (letters c.lts_phones c.lts_index c.lts_model word) (stopped word) room l r e

  pub word_followed : length word ≤ 47 → (a : Option Found) → told_looked (Ok a) ≡ told_finding finding room
      → (told_behind a (letters c.lts_phones c.lts_index c.lts_model word) (stopped word) (out_finding finding room) ≡ told_spoken (pronounced c es word tag))
      × (room_behind a (letters c.lts_phones c.lts_index c.lts_model word) (stopped word) (out_finding finding room) ≡ cells_spoken (pronounced c es word tag) room)
  unfolding pronounced
  word_followed k a e =
      lookup_followed finding (length word) (letters c.lts_phones c.lts_index c.lts_model word) (stopped word) room l k (letters_few c.lts_phones c.lts_index c.lts_model word) a e
