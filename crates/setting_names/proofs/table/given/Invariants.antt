-- `setting_names::given` meets its contract: what is sought in the places left is what is sought in all. Assumes nothing.
use Rattle.std.proofs.Common.{◌≡◌, ◌-◌, ◌%◌}
use Rattle.settings_spec.specs.Laws.Names.{given, sought}
use Rattle.setting_names.proofs.table.given.Given as goal

abbrev pub invariant-loop-at : goal.invariant-loop-at
invariant-loop-at l = given l.settings l.table l.name ≡ sought l.settings l.table l.name (l.at-end - l.at) (l.at % 4096)
