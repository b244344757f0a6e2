-- `sound_sheet::is_ordered` meets its contract: the walk so far leaves the walk from item p and phone q over the items left. Assumes nothing.
use Rattle.std.specs.Prelude.{◌<◌, ◌-◌, ◌≡◌}
use Rattle.utterance_spec.specs.Sheet.{used, items}
use Rattle.utterance_spec.specs.Laws.Turns.{is_ordered}
use Rattle.sound_sheet.proofs.order.is_ordered.Given as goal

abbrev pub invariant-loop : goal.invariant-loop
invariant-loop l =
    (is_ordered l.sheet (used l.sheet) 0 0 ≡ is_ordered l.sheet (used l.sheet - l.counter) l.p l.q) × (l.p < items l.sheet) × (l.q < items l.sheet)
