-- `sound_settings::walks` meets its contract: the walk over the records left is the walk over all. Assumes nothing.
use Rattle.std.proofs.Common.{◌≡◌, ◌-◌}
use Rattle.settings_spec.specs.Settings.{walks}
use Rattle.sound_settings.proofs.walks.Given as goal

abbrev pub invariant-loop : goal.invariant-loop
invariant-loop l = walks l.settings l.n 0 ≡ walks l.settings (l.n - l.counter) l.p
