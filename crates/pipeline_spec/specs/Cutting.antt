-- A pronounced word in bytes: what was pronounced as an answer and as cells; and the bytes that tell where its syllables end, with their stress.
-- Assumes nothing.
use Rattle.std.specs.Prelude.{ℕ, ◌*◌, List, [], ◌∷◌, ◌++◌, eqb, length, drop}
use Rattle.texts.specs.Choice.{when◌then◌else◌}
use Rattle.versions.specs.Versions.{digits}
use Rattle.phoneset.specs.Stress.{is_stressed, stress}
use Rattle.cells.specs.Cells.{cells_of}
use Rattle.answers.specs.declared.Answer.{Answer}
use Rattle.answers.specs.Told.{refused, accepted_with}
use Rattle.pipeline_spec.specs.Pronounced.{Spoken, barred, phones}

-- a refusal; or the source, how many phones, and where the letters stopped
abbrev pub told_spoken : Spoken → Answer
told_spoken (barred n) = refused n 0
told_spoken (phones source place ps) = accepted_with source (length ps) place 0

-- the phones at the front of a room, which keeps its bytes past them
abbrev pub cells_spoken : Spoken → List ℕ → List ℕ
cells_spoken (barred n) room = room
cells_spoken (phones source place ps) room = cells_of ps ++ drop (16 * length ps) room

-- the stress behind a phone in version v: its own, else the one before it
unfoldable pub stressed : ℕ → ℕ → List ℕ → ℕ
stressed v d p = when is_stressed (digits v) p then stress (digits v) p else d

-- at each phone the stress of the syllable that a mark ends there, 0 where none ends; d is the last stress before
unfoldable pub cuts_of : ℕ → ℕ → List ℕ → List (List ℕ) → List ℕ
cuts_of v d [] ps = []
cuts_of v d (m ∷ ms) [] = []
cuts_of v d (m ∷ ms) (p ∷ ps) = when eqb m 1 then stressed v d p ∷ cuts_of v 48 ms ps else 0 ∷ cuts_of v (stressed v d p) ms ps
