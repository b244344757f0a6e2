-- What the parts of a lookup answer: the entry in a slot, whether phones may be answered (refusals 7 and 9), and 01's rule on a lexicon as the code holds it.
-- Assumes nothing.
use Rattle.std.specs.Prelude.{ℕ, ◌*◌, List, ltb, Option, None, Some, Result, Ok, Err}
use Rattle.std.proofs.Math.Option.{Option as Optional, none, some}
use Rattle.texts.specs.Choice.{when◌then◌else◌}
use Rattle.slots_spec.specs.Slot.{Entry}
use Rattle.store_spec.specs.Store.{entry_at}
use Rattle.compiled.specs.declared.sections.Lexicon.{Lexicon}
use Rattle.lexicon_spec.specs.Lookup.{Finding, from_compiled, find}
use Rattle.answers.specs.declared.Found.{Found}
use Rattle.answers.specs.declared.Refusal.{Refusal}
use Rattle.answers.specs.declared.Refusal.TheVariants.{Phones, Short}
use Rattle.answers.specs.declared.Source.{Source}

-- the entry in a slot, where there is one
abbrev pub held : List ℕ → Option ℕ → Optional Entry
held b None = none
held b (Some n) = some (entry_at b n)

-- so many phones from a source, in an output of so many bytes
abbrev pub answer : Source → ℕ → ℕ → Result Found Refusal
answer s n room = when ltb 96 n then Err Phones else when ltb room (16 * n) then Err Short else Ok (record { source = s; phones = n })

-- the compiled answer, and 01's rule, on the sections of a lexicon
abbrev pub compiled_in : Lexicon → List ℕ → ℕ → Finding
compiled_in l word tag = from_compiled l.table.bytes.now l.index.now l.entries.now word tag

abbrev pub find_in : Lexicon → List Entry → List ℕ → ℕ → Finding
find_in l es word tag = find es l.table.bytes.now l.index.now l.entries.now word tag
