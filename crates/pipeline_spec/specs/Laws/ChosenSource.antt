-- A chosen source that is none sends the word to the letter trees: a word by the answer of its lookup, in a room of 96 cells.
-- Assumes nothing.
use Rattle.std.specs.Prelude.{ℕ, Option, None, Some, List, eqb}
use Rattle.std.proofs.Math.Option.{Option as Letters}
use Rattle.texts.specs.Choice.{when◌then◌else◌}
use Rattle.answers.specs.declared.Answer.{Answer}
use Rattle.answers.specs.declared.Found.{Found}
use Rattle.answers.specs.Told.{source_number, accepted_with}
use Rattle.lts_spec.specs.Call.{told_phones, out_phones}

-- an answer of predict as a word's: the letter trees are its source
abbrev pub by_letters : Answer → Answer
by_letters a = when eqb a.refusal 0 then accepted_with 4 a.value a.second 0 else a

-- what is answered behind a lookup that wasn't refused, and the room: phones that were found stay
abbrev pub told_behind : Option Found → Letters (List (List ℕ)) → ℕ → List ℕ → Answer
told_behind (Some found) from_letters place room = accepted_with (source_number found.source) found.phones 0 0
told_behind None from_letters place room = by_letters (told_phones from_letters place room)

abbrev pub room_behind : Option Found → Letters (List (List ℕ)) → ℕ → List ℕ → List ℕ
room_behind (Some found) from_letters place room = room
room_behind None from_letters place room = out_phones from_letters place room
