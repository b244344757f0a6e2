-- `lexicon::put_spoken` meets its contract: after i phones, out is what pasting i cells leaves. Assumes nothing.
use Rattle.std.proofs.Common.{◌≡◌, ◌*◌, length}
use Rattle.std.proofs.Math.Seq.{paste}
use Rattle.cells.specs.Cells.{cells_of}
use Rattle.compiled_spec.specs.Entries.{entry_phones}
use Rattle.lexicon.proofs.put_spoken.Given as goal

abbrev pub invariant-loop-i : goal.invariant-loop-i
invariant-loop-i l =
    (l.out ≡ paste l.initial.out 0 (cells_of (entry_phones l.table.bytes.now l.s)) (16 * l.i)) × (length l.out ≡ length l.initial.out)
