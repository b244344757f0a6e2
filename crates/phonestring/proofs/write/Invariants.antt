-- `phonestring::write` meets its contract: what is left is the string behind p, from k on. Assumes nothing.
use Rattle.std.proofs.Common.{◌≡◌, ◌+◌, ◌-◌, ◌≤◌, ◌++◌, length, drop}
use Rattle.std.proofs.Math.Seq.{paste}
use Rattle.utterance_spec.specs.Sheet.{used}
use Rattle.phonestring.specs.PhoneString.{string}
use Rattle.phonestring.specs.Laws.Turns.{rest}
use Rattle.phonestring.proofs.write.Given as goal

abbrev pub invariant-loop : goal.invariant-loop
invariant-loop l =
    let left = rest l.sheet (used l.sheet - l.counter) l.p in
    record {
      string : string l.sheet ++ drop (length (string l.sheet)) l.initial.out ≡ paste l.out l.k left (length left);
      room : l.k + length left ≤ length l.out;
      out : length l.out ≡ length l.initial.out;
    }
