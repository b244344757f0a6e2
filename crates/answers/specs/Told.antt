-- 01, What a call gives back, and 02, S-2, S-5 and S-12: the number of each refusal, and every case of every answer as numbers.
-- Assumes nothing.
use Rattle.std.specs.Prelude.{ℕ, Bool, true, false, Result, Ok, Err, Option, None, Some, cond, List, eqb, ℤ, pos, Float}
use Rattle.std.specs.Float.{fin}
use Rattle.answers.specs.declared.Answer.{Answer}
use Rattle.answers.specs.declared.Refusal.{Refusal}
use Rattle.answers.specs.declared.Refusal.TheVariants.{Section, Unsound, Text, Line, UnknownPhone, Damaged, Phones, Full, Short, Count, Version, Records, Range}
use Rattle.answers.specs.declared.Source.{Source}
use Rattle.answers.specs.declared.Source.TheVariants.{Runtime, Addenda, Compiled}
use Rattle.answers.specs.declared.AtLine.{AtLine}
use Rattle.answers.specs.declared.Found.{Found}
use Rattle.answers.specs.declared.Predicted.{Predicted}
use Rattle.answers.specs.declared.Previewed.{Previewed}
use Rattle.answers.specs.declared.Settings.{Settings}
use Rattle.answers.specs.declared.Shown.{Shown}
use Rattle.answers.specs.declared.Shown.TheVariants.{First, Second}

-- the papers' number of a refusal
abbrev pub refusal_number : Refusal → ℕ
refusal_number Section = 1
refusal_number Unsound = 2
refusal_number Text = 3
refusal_number Line = 4
refusal_number UnknownPhone = 5
refusal_number Damaged = 6
refusal_number Phones = 7
refusal_number Full = 8
refusal_number Short = 9
refusal_number Count = 12
refusal_number Version = 15
refusal_number Records = 16
refusal_number Range = 17

-- the sources in 01's order
abbrev pub source_number : Source → ℕ
source_number Runtime = 1
source_number Addenda = 2
source_number Compiled = 3

-- refused by a number, at a line of a text (0 where none is at fault)
abbrev pub refused : ℕ → ℕ → Answer
refused n line = record { refusal = n; kind = 0; value = line; second = 0; third = 0 }

-- accepted, with all that an answer can tell
abbrev pub accepted_with : ℕ → ℕ → ℕ → ℕ → Answer
accepted_with kind value second third = record { refusal = 0; kind = kind; value = value; second = second; third = third }

-- accepted, with a kind and a count
abbrev pub accepted : ℕ → ℕ → Answer
accepted kind count = accepted_with kind count 0 0

-- a lent buffer at exit: what the call writes where it was accepted, else as it was
abbrev pub written : Answer → List ℕ → List ℕ → List ℕ
written answer before after = cond (eqb answer.refusal 0) after before

-- a refusal by a text as a whole
abbrev pub at_whole : Refusal → AtLine
at_whole r = record { refusal = r; line = 0 }

abbrev pub told_verdict : Result Bool Refusal → Answer
told_verdict (Err r) = refused (refusal_number r) 0
told_verdict (Ok true) = accepted 1 0
told_verdict (Ok false) = accepted 0 0

abbrev pub told_looked : Result (Option Found) Refusal → Answer
told_looked (Err r) = refused (refusal_number r) 0
told_looked (Ok None) = accepted 0 0
told_looked (Ok (Some found)) = accepted (source_number found.source) found.phones

-- 02, S-5: where the letters stopped is the second number
abbrev pub told_predicted : Result Predicted Refusal → Answer
told_predicted (Err r) = refused (refusal_number r) 0
told_predicted (Ok p) = accepted_with 0 p.phones p.stopped 0

-- syllabify and phone string: how many marks, how many bytes
abbrev pub told_count : Result ℕ Refusal → Answer
told_count (Err r) = refused (refusal_number r) 0
told_count (Ok n) = accepted 0 n

abbrev pub told_done : Result (Unit {0}) Refusal → Answer
told_done (Err r) = refused (refusal_number r) 0
told_done (Ok _) = accepted 0 0

abbrev pub told_lines : Result ℕ AtLine → Answer
told_lines (Err e) = refused (refusal_number e.refusal) e.line
told_lines (Ok n) = accepted 0 n

-- 02, S-2: the lines taken, the slots newly used, the lines that replaced an entry
abbrev pub told_previewed : Result Previewed AtLine → Answer
told_previewed (Err e) = refused (refusal_number e.refusal) e.line
told_previewed (Ok p) = accepted_with 0 p.taken p.newly p.replaced

abbrev pub told_said : Result ℕ Refusal → Answer
told_said (Err r) = refused (refusal_number r) 0
told_said (Ok place) = accepted_with 0 0 place 0

-- 02, S-12: refused by a number, which shows no settings
abbrev pub no_settings : ℕ → Settings
no_settings n = record { refusal = n; count = 0; pitch = pos 0; stretch = fin false 0 (pos 0); level = pos 0; rack = fin false 0 (pos 0) }

-- so many settings are shown, and the rack's stretch
abbrev pub showing : ℕ → ℤ → Float → ℤ → Float → Settings
showing n pitch stretch level rack = record { refusal = 0; count = n; pitch = pitch; stretch = stretch; level = level; rack = rack }

abbrev pub told_shown : Result Shown Refusal → Settings
told_shown (Err r) = no_settings (refusal_number r)
told_shown (Ok (First pitch stretch rack)) = showing 2 pitch stretch (pos 0) rack
told_shown (Ok (Second pitch stretch level rack)) = showing 3 pitch stretch level rack
