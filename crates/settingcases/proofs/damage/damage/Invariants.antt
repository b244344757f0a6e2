-- `settingcases::damage::damage` is safe: at most one effect is counted a turn. Assumes nothing.
use Rattle.std.proofs.Common.{◌≤◌}
use Rattle.settingcases.proofs.damage.damage.Given as goal

abbrev pub invariant-loop-b : goal.invariant-loop-b
invariant-loop-b g l = l.effects ≤ l.b
