-- `entryline::put_fields` meets its contract: after i fields, dst is what pasting i cells leaves. Assumes nothing.
use Rattle.std.proofs.Common.{◌≡◌, ◌≤◌, ◌*◌, length, drop}
use Rattle.std.proofs.Math.Seq.{paste}
use Rattle.std.specs.Iterator.Adapters.{enumerate_source, enumerate_count}
use Rattle.lines.specs.Lines.{fields}
use Rattle.lines.specs.Left.{fields_left}
use Rattle.cells.specs.Cells.{cells_of}
use Rattle.entryline.proofs.put_fields.Given as goal

abbrev pub invariant-loop-i : goal.invariant-loop-i
invariant-loop-i l =
    (drop (enumerate_count l.i-iterator) (fields l.s) ≡ fields_left (enumerate_source l.i-iterator))
    × (enumerate_count l.i-iterator ≤ length (fields l.s))
    × (l.dst ≡ paste l.initial.dst 0 (cells_of (fields l.s)) (16 * enumerate_count l.i-iterator))
    × (length l.dst ≡ length l.initial.dst)
