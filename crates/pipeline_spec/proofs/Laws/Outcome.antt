-- What say word answers and leaves, by what the word comes to: a refusal is handed on, and phones are put on the sheet.
-- Assumes nothing.
use Rattle.std.specs.Prelude.{ℕ, ◌*◌, ◌≤◌, ◌≡◌, refl, ◌≢◌, true, List, ◌++◌, eqb, ltb, length, take, drop}
use Rattle.std.proofs.Common.{arith, sym, ap, ◌∙◌, length-append}
use Rattle.std.proofs.Math.Option.{Option, none, some}
use Rattle.texts.specs.Choice.{cases}
use Rattle.texts.specs.Text.{is_phone, phone_short}
use Rattle.texts.specs.Lists.{every}
use Rattle.cells.specs.Cells.{phones_of, cells_of, length_cells_of}
use Rattle.slots_spec.specs.Slot.{Entry}
use Rattle.lts_spec.specs.Letters.{letters, stopped}
use Rattle.lexicon_spec.specs.Lookup.{Finding, nothing, damaged, found, find, wanted_tag}
use Rattle.utterance_spec.specs.Sheet.{version}
use Rattle.answers.specs.declared.Answer.{Answer}
use Rattle.answers.specs.declared.Refusal.{Refusal}
use Rattle.answers.specs.Told.{refusal_number, refused, accepted_with, written}
use Rattle.answers.specs.Laws.Numbers.{refused_never}
use Rattle.pipeline_spec.specs.Pronounced.{Sections, Spoken, barred, phones, on_finding, pronounced, said}
use Rattle.pipeline_spec.specs.Cutting.{told_spoken, cells_spoken}
use Rattle.pipeline_spec.proofs.Laws.BareCells.{front_phones}
use Rattle.pipeline_spec.specs.Placing.{placed, sheet_placed, on_spoken, with_spoken}

-- a refusal has a number
abbrev pub Real : Spoken → Type 0
Real (barred n) = n ≢ 0
Real (phones source place ps) = Unit {0}

letters_real : (o : Option (List (List ℕ))) (place : ℕ) → Real (on_finding nothing o place)
letters_real none place = λ e. absurd (omega (arith, e))
letters_real (some ps) place = tt

finding_real : (f : Finding) (o : Option (List (List ℕ))) (place : ℕ) → Real (on_finding f o place)
finding_real nothing o place = letters_real o place
finding_real damaged o place = λ e. absurd (omega (arith, e))
finding_real (found s ps) o place = cases (ltb 96 (length ps)) (λ e. rw e (λ z. absurd (omega (arith, z)))) (λ e. rw e tt)

pub pronounced_real : (c : Sections) (es : List Entry) (word tag : List ℕ) → Real (pronounced c es word tag)
unfolding pronounced
pronounced_real c es word tag = finding_real (find es c.lex_phones c.lex_index c.lex_data word (wanted_tag tag)) (letters c.lts_phones c.lts_index c.lts_model word) (stopped word)

-- what stays as it was, whatever the answer
unmoved : (a : Answer) (b : List ℕ) → written a b b ≡ b
unmoved a b = cases (eqb a.refusal 0) (λ e. rw e) (λ e. rw e)

module _ (sheet word : List ℕ) where
  -- a refusal
  pub said_refused : (p : Spoken) (r : Refusal) → refused (refusal_number r) 0 ≡ told_spoken p
      → (refused (refusal_number r) 0 ≡ on_spoken sheet word p) × (sheet ≡ written (on_spoken sheet word p) sheet (with_spoken sheet word p))
  said_refused (barred n) r h = (h, sym (unmoved (refused n 0) sheet))
  said_refused (phones source place ps) r h = refused_never r (ap (λ (a : Answer). a.refusal) h)

  -- phones, read back from the front of a room
  pub said_phones : (p : Spoken) (source place n : ℕ) (room cells : List ℕ) → Real p → accepted_with source n place 0 ≡ told_spoken p → cells ≡ take (16 * n) (cells_spoken p room)
      → ((source place : ℕ) (ps : List (List ℕ)) → p ≡ phones source place ps → every is_phone ps ≡ true)
      → (placed sheet place (said (version sheet) word source (phones_of cells)) ≡ on_spoken sheet word p)
      × (sheet_placed sheet place (said (version sheet) word source (phones_of cells)) ≡ written (on_spoken sheet word p) sheet (with_spoken sheet word p))
  said_phones (barred m) source place n room cells r h e f = absurd (r (sym (ap (λ (a : Answer). a.refusal) h)))
  said_phones (phones s q ps) source place n room cells r h e f =
      let l : n ≡ length ps = ap (λ (a : Answer). a.value) h in
      let m : place ≡ q = ap (λ (a : Answer). a.second) h in
      let o : source ≡ s = ap (λ (a : Answer). a.kind) h in
      let k = ap phones_of e ∙ front_phones ps (drop (16 * length ps) room) n (phone_short ps (f s q ps refl)) (sym l) in
      (rw (k, m, o), rw (k, m, o))

-- as many as the room has cells for
pub phones_few : (p : Spoken) (source place n : ℕ) (room rest : List ℕ) → Real p → accepted_with source n place 0 ≡ told_spoken p → rest ≡ cells_spoken p room → length rest ≡ 1536
    → ((source place : ℕ) (ps : List (List ℕ)) → p ≡ phones source place ps → every is_phone ps ≡ true) → 16 * n ≤ 1536
phones_few (barred m) source place n room rest r h e l f = absurd (r (sym (ap (λ (a : Answer). a.refusal) h)))
phones_few (phones s q ps) source place n room rest r h e l f =
    let k : n ≡ length ps = ap (λ (a : Answer). a.value) h in
    let c = length_cells_of ps (phone_short ps (f s q ps refl)) in
    let a = length-append (cells_of ps) (drop (16 * length ps) room) in
    let b : length rest ≡ length (cells_of ps ++ drop (16 * length ps) room) = ap (λ (s : List ℕ). length s) e in
    omega (arith, k, c, a, b, l)
