-- `data::is_listed` meets its contract: of the strings passed none is the phone, so those from the reader's position on, all of which fit, decide. Assumes nothing.
use Rattle.std.proofs.Common.{◌≡◌, ◌-◌, true, drop}
use Rattle.texts.specs.Text.{same}
use Rattle.texts.specs.Lists.{some}
use Rattle.data.specs.Sections.{strings, is_listed}
use Rattle.data.specs.Places.{all_fit}
use Rattle.data.proofs.is_listed.Given as goal

abbrev pub invariant-loop : goal.invariant-loop
invariant-loop l =
    let left = l.end - l.counter in
    let at = l.strings.pos in
    (l.strings.bytes.now ≡ l.s) × (all_fit left l.s at ≡ true) × (is_listed l.s l.phone ≡ some (same l.phone) (strings left (drop at l.s)))
