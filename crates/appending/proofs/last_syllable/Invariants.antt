-- `appending::last_syllable` meets its contract: the last of all is the last of the syllables left, behind the one passed. Assumes nothing.
use Rattle.std.proofs.Common.{ℕ, List, ◌≡◌, ◌+◌, ◌*◌, ◌≤◌, length, drop}
use Rattle.std.specs.Slice.Iter.{split_inclusive_rest}
use Rattle.records.specs.Chain.{end_of}
use Rattle.utterance_spec.specs.Tree.{syllables_at}
use Rattle.utterance_spec.specs.Append.{numbered}
use Rattle.utterance_spec.specs.Cuts.{grouped}
use Rattle.appending.proofs.last_syllable.Given as goal

abbrev pub invariant-loop-marks : goal.invariant-loop-marks
invariant-loop-marks l =
    record {
      callable : (goal.iterator-loop-marks).can_next l.marks-iterator;
      finite : (goal.iterator-loop-marks).is_finite l.marks-iterator;
      left : (i : ℕ)
          × (split_inclusive_rest l.marks-iterator ≡ drop i l.cuts)
          × (i ≤ length l.cuts)
          × (l.n ≤ l.k + 2 * i)
          × ((ps : List (List ℕ)) → length l.cuts ≡ length ps → end_of 0 (syllables_at (numbered l.k (grouped l.cuts ps))) ≡ end_of l.y (syllables_at (numbered l.n (grouped (drop i l.cuts) (drop i ps)))));
    }
