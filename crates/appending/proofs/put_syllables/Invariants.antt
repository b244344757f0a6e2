-- `appending::put_syllables` meets its contract: the syllables left, put on the sheet as it is, give what all of them give. Assumes nothing.
use Rattle.std.proofs.Common.{ℕ, ◌≡◌, ◌+◌, ◌*◌, ◌/◌, ◌≤◌, length, drop}
use Rattle.std.specs.Slice.Iter.{split_inclusive_rest}
use Rattle.cells.specs.Cells.{phones_of}
use Rattle.utterance_spec.specs.Append.{size_in, put_items}
use Rattle.utterance_spec.specs.Cuts.{grouped}
use Rattle.appending.specs.Laws.Putting.{syllables_from}
use Rattle.appending.proofs.put_syllables.Given as goal

abbrev pub invariant-loop-marks : goal.invariant-loop-marks
invariant-loop-marks l =
    record {
      callable : (goal.iterator-loop-marks).can_next l.marks-iterator;
      finite : (goal.iterator-loop-marks).is_finite l.marks-iterator;
      left : (i : ℕ)
          × (split_inclusive_rest l.marks-iterator ≡ drop i l.cuts)
          × (i ≤ length l.cuts)
          × (l.left ≡ drop (16 * i) l.phones)
          × (put_items l.initial.sheet (l.w + 1) (syllables_from l.w l.q (l.w + 1) (grouped l.cuts (phones_of l.phones))) ≡ put_items l.sheet l.k (syllables_from l.w l.before l.k (grouped (drop i l.cuts) (drop i (phones_of l.phones)))))
          × (l.k + size_in (grouped (drop i l.cuts) (drop i (phones_of l.phones))) ≤ length l.initial.sheet / 64);
      sheet : length l.sheet ≡ length l.initial.sheet;
    }
