-- `setting_names::first_lost` meets its contract: the first lost record of those left is the first of all. Assumes nothing.
use Rattle.std.proofs.Common.{◌≡◌, ◌-◌}
use Rattle.records.specs.Chain.{chain}
use Rattle.settings_spec.specs.Settings.{next}
use Rattle.settings_spec.specs.Laws.Names.{first_lost}
use Rattle.setting_names.proofs.table.first_lost.Given as goal

abbrev pub invariant-loop : goal.invariant-loop
invariant-loop l =
    first_lost l.settings l.table (chain (next l.settings) l.n 0) ≡ first_lost l.settings l.table (chain (next l.settings) (l.n - l.counter) l.p)
