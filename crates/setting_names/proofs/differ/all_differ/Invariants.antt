-- `setting_names::all_differ` meets its contract: the names left differ exactly if all do. Assumes nothing.
use Rattle.std.proofs.Common.{◌≡◌}
use Rattle.std.specs.Prelude.{map}
use Rattle.settings_spec.specs.Settings.{name_at, next}
use Rattle.texts.specs.Text.{distinct}
use Rattle.records.specs.Chain.{chain}
use Rattle.setting_names.proofs.differ.all_differ.Given as goal

abbrev pub invariant-loop-left : goal.invariant-loop-left
invariant-loop-left l =
    distinct (map (name_at l.settings) (chain (next l.settings) l.n 0)) ≡ distinct (map (name_at l.settings) (chain (next l.settings) l.left l.p))
