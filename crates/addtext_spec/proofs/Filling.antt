-- Theorems about `specs/Filling.antt`: 01, Lookup: Adding, and 02, S-2 and S-8. The lines of a text in turn, up to the first fault, the entries that they add, and the spare behind them.
-- Assumes nothing.
use Rattle.std.specs.Prelude.{ℕ, ◌≡◌, refl, true, List, [], ◌∷◌}
use Rattle.std.proofs.Common.{◌∙◌}
use Rattle.texts.specs.Lists.{every, every_append}
use Rattle.slots_spec.specs.Slot.{is_ordinary}
use Rattle.addtext_spec.specs.Line.{Line, skipped, faulty, entry, read_line, line_entry}
use Rattle.addtext_spec.specs.Filling.{entries_of, line_entries}

-- none of them is exact (02, S-8)
pub lines_ordinary : (ls : List (List ℕ)) → every is_ordinary (line_entries ls) ≡ true
unfolding every line_entries entries_of line_entry is_ordinary
lines_ordinary [] = refl
lines_ordinary (l ∷ ls) = every_append is_ordinary (entries_of (read_line l)) (line_entries ls) ∙ rw (ordinary (read_line l)) (lines_ordinary ls)
  where
    ordinary : (l : Line) → every is_ordinary (entries_of l) ≡ true
    ordinary skipped = refl
    ordinary faulty = refl
    ordinary (entry word tag phones) = refl
