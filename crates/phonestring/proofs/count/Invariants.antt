-- `phonestring::count` meets its contract: the bytes counted and those of the string behind p are all. Assumes nothing.
use Rattle.std.proofs.Common.{◌≡◌, ◌+◌, ◌-◌, ◌*◌, ◌≤◌, length}
use Rattle.utterance_spec.specs.Sheet.{used}
use Rattle.phonestring.specs.PhoneString.{string}
use Rattle.phonestring.specs.Laws.Turns.{rest}
use Rattle.phonestring.proofs.count.Given as goal

abbrev pub invariant-loop : goal.invariant-loop
invariant-loop l =
    (length (string l.sheet) ≡ l.n + length (rest l.sheet (used l.sheet - l.counter) l.p)) × (l.n ≤ 48 * l.counter)
