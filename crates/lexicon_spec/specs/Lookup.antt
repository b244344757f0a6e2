-- 01, Lookup, and 02, S-8: runtime entries, exact ones first and the oldest first; then the addenda; then the compiled entries.
-- What a lookup comes to, and refusals 6, 7 and 9.
-- Assumes nothing.
use Rattle.std.specs.Prelude.{ℕ, ◌*◌, true, false, List, ◌++◌, map, ltb, get_or, drop, Some, None, Ok, Err}
use Rattle.std.proofs.Math.Option.{Option, none, some, or_else}
use Rattle.std.proofs.Math.ListN.{length}
use Rattle.texts.specs.Choice.{when◌then◌else◌}
use Rattle.texts.specs.Lists.{first}
use Rattle.texts.specs.Text.{folded}
use Rattle.cells.specs.Cells.{cells_of}
use Rattle.addenda.specs.Addenda.{Addendum, addenda}
use Rattle.addenda.specs.Find.{is_meant}
use Rattle.slots_spec.specs.Slot.{Entry}
use Rattle.store_spec.specs.Store.{is_wanted}
use Rattle.compiled_spec.specs.Entries.{entry_at, is_spoken, entry_phones}
use Rattle.compiled_spec.specs.Search.{Chosen, chosen}
use Rattle.answers.specs.declared.Answer.{Answer}
use Rattle.answers.specs.declared.Source.{Source}
use Rattle.answers.specs.declared.Source.TheVariants.{Runtime, Addenda, Compiled}
use Rattle.answers.specs.Told.{source_number, refused, accepted, written}

-- what a lookup comes to: nothing, damage, or phones from a source
pub data Finding : Type 0 where
  nothing : Finding
  damaged : Finding
  found : Source → List (List ℕ) → Finding

-- the wanted tag is the tag's first byte, or "0" if it is empty
unfoldable pub wanted_tag : List ℕ → ℕ
wanted_tag tag = get_or tag 0 48

-- the oldest exact entry of the word's own bytes whose tag agrees; failing that, the oldest ordinary one, folded against folded
unfoldable pub chosen_entry : List Entry → List ℕ → ℕ → Option Entry
chosen_entry es word tag = or_else (first (is_wanted true true word tag) es) (first (is_wanted false true (map folded word) tag) es)

abbrev pub on_entry : Option Entry → Finding → Finding
on_entry (some e) rest = found Runtime e.phones
on_entry none rest = rest

abbrev pub on_row : Option Addendum → Finding → Finding
on_row (some r) rest = found Addenda r.phones
on_row none rest = rest

-- an entry that is chosen is damaged also if a number has no phone
abbrev pub spoken : List ℕ → List ℕ → Finding
spoken phones s = when is_spoken phones s then found Compiled (entry_phones phones s) else damaged

abbrev pub on_chosen : List ℕ → List ℕ → List ℕ → Chosen → Finding
on_chosen phones index dat (Err e) = damaged
on_chosen phones index dat (Ok None) = nothing
on_chosen phones index dat (Ok (Some i)) = spoken phones (entry_at index dat i)

-- the compiled answer
unfoldable pub from_compiled : List ℕ → List ℕ → List ℕ → List ℕ → ℕ → Finding
from_compiled phones index dat word tag = on_chosen phones index dat (chosen index dat word tag)

-- a word, looked up among runtime entries; then the addenda, unfolded; then the compiled entries
unfoldable pub find : List Entry → List ℕ → List ℕ → List ℕ → List ℕ → ℕ → Finding
find es phones index dat word tag =
    on_entry (chosen_entry es word tag)
    (on_row (first (is_meant word tag) addenda) (from_compiled phones index dat word tag))

-- what is answered, where nothing else is left to decide
abbrev pub told_finding : Finding → List ℕ → Answer
told_finding nothing out = accepted 0 0
told_finding damaged out = refused 6 0
told_finding (found s ps) out =
    when ltb 96 (length ps) then refused 7 0
    else when ltb (length out) (16 * length ps) then refused 9 0
    else accepted (source_number s) (length ps)

-- phones at the front of an output, which keeps its bytes past them
abbrev pub with_finding : Finding → List ℕ → List ℕ
with_finding nothing out = out
with_finding damaged out = out
with_finding (found s ps) out = cells_of ps ++ drop (16 * length ps) out

-- the output at exit, where the finding is all that is left to decide
abbrev pub out_finding : Finding → List ℕ → List ℕ
out_finding f out = written (told_finding f out) out (with_finding f out)
