-- 01, Store and sheet, and 02, S-2 and S-9: a list of calls. Each gets what the one before left in store and sheet, and the same sections.
-- The list carries a spare from call to call too, at first equal to the store: the two steps find that one, add text that or any other.
-- Assumes nothing.
use Rattle.std.specs.Prelude.{ℕ, Bool, not, List, [], ◌∷◌, eqb}
use Rattle.std.proofs.Math.Option.{Option, none, some}
use Rattle.new_store.specs.NewStore.{new_bytes as new_store_bytes}
use Rattle.add_entry.specs.AddEntry.{add_entry, store_after as store_after_entry}
use Rattle.preview_entries.specs.PreviewEntries.{preview_entries, spare_after as spare_previewed}
use Rattle.accept_entries.specs.AcceptEntries.{accept_entries, store_after as store_accepted}
use Rattle.add_entries.specs.AddEntries.{add_entries, store_after as store_after_text, spare_after as spare_after_text}
use Rattle.new_sheet.specs.NewSheet.{new_sheet, new_bytes}
use Rattle.answers.specs.declared.Answer.{Answer}
use Rattle.pipeline_spec.specs.Pronounced.{Sections}
use Rattle.say_word.specs.SayWord.{say_word, sheet_after}

-- a call, with its arguments other than store, sheet and spare; new sheet has its version (02, S-9)
pub data Call : Type 0 where
  make_sheet : ℕ → Call
  adds_entry : List ℕ → List ℕ → List ℕ → Bool → Call
  adds_text : List ℕ → Call
  previews_text : List ℕ → Call
  accepts_text : Call
  says_word : List ℕ → List ℕ → Call

-- a call as it is made, with the spare that add text finds where that is not the list's own
pub record Made : Type 0 where
  pub call : Call
  pub other : Option (List ℕ)

pub record State : Type 0 where
  pub store : List ℕ
  pub sheet : List ℕ
  pub spare : List ℕ

-- the spare that add text finds, and the list's own behind it, which another spare leaves as it was
abbrev pub found : Option (List ℕ) → List ℕ → List ℕ
found none own = own
found (some other) own = other

abbrev pub carried : Option (List ℕ) → List ℕ → List ℕ → List ℕ
carried none own filled = filled
carried (some other) own filled = own

module _ (c : Sections) where
  -- what a call answers, and what it leaves: the definitions that the calls' contracts cite
  unfoldable pub answer : Call → Option (List ℕ) → State → Answer
  answer (make_sheet version) other s = new_sheet s.sheet version
  answer (adds_entry word tag phones exact) other s = add_entry c.lex_phones s.store word tag phones exact
  answer (adds_text text) other s = add_entries c.lex_phones s.store (found other s.spare) text
  answer (previews_text text) other s = preview_entries c.lex_phones s.store s.spare text
  answer accepts_text other s = accept_entries s.store s.spare
  answer (says_word word tag) other s = say_word c s.store s.sheet word tag

  unfoldable pub step : Call → Option (List ℕ) → State → State
  step (make_sheet version) other s = record { store = s.store; sheet = new_bytes s.sheet version; spare = s.spare }
  step (adds_entry word tag phones exact) other s =
      record { store = store_after_entry c.lex_phones s.store word tag phones exact; sheet = s.sheet; spare = s.spare }
  step (adds_text text) other s =
      record {
        store = store_after_text c.lex_phones s.store (found other s.spare) text;
        sheet = s.sheet;
        spare = carried other s.spare (spare_after_text c.lex_phones s.store (found other s.spare) text);
      }
  step (previews_text text) other s = record { store = s.store; sheet = s.sheet; spare = spare_previewed c.lex_phones s.store s.spare text }
  step accepts_text other s = record { store = store_accepted s.store s.spare; sheet = s.sheet; spare = s.spare }
  step (says_word word tag) other s = record { store = s.store; sheet = sheet_after c s.store s.sheet word tag; spare = s.spare }

  abbrev pub is_refused : Call → Option (List ℕ) → State → Bool
  is_refused call other s = not (eqb (answer call other s).refusal 0)

  -- the state that a list of calls leaves
  unfoldable pub leaves : List Made → State → State
  leaves [] s = s
  leaves (m ∷ ms) s = leaves ms (step m.call m.other s)

-- store and sheet as new store and new sheet of this version leave them, their other bytes arbitrary, and a spare equal to the store
unfoldable pub fresh : List ℕ → List ℕ → ℕ → State
fresh store sheet version = record { store = new_store_bytes store; sheet = new_bytes sheet version; spare = new_store_bytes store }
