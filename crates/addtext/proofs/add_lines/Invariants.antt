-- `addtext::add_lines` meets its contract: the lines passed are in the store, and those left decide. Assumes nothing.
use Rattle.std.proofs.Common.{◌≡◌, ◌+◌, ◌≤◌, true, length}
use Rattle.std.specs.Iterator.Adapters.{enumerate_source, enumerate_count}
use Rattle.texts.specs.Lists.{every}
use Rattle.texts.specs.Text.{ascii}
use Rattle.lines.specs.Lines.{lines}
use Rattle.lines.specs.Left.{lines_left}
use Rattle.store_spec.specs.Store.{is_sound}
use Rattle.addtext_spec.specs.Filling.{filled}
use Rattle.addtext.proofs.add_lines.Given as goal

abbrev pub invariant-loop-i : goal.invariant-loop-i
invariant-loop-i l =
    (l.taken ≤ enumerate_count l.i-iterator)
    × (is_sound l.store ≡ true)
    × (length l.store ≡ length l.initial.store)
    × (every ascii (lines_left (enumerate_source l.i-iterator)) ≡ true)
    × (filled l.table l.initial.store 1 0 (lines l.text) ≡ filled l.table l.store (enumerate_count l.i-iterator + 1) l.taken (lines_left (enumerate_source l.i-iterator)))
