-- `settings::named` meets its contract: the first of the records left is the first of all. Assumes nothing.
use Rattle.std.proofs.Common.{◌≡◌, ◌-◌}
use Rattle.records.specs.Chain.{chain}
use Rattle.settings_spec.specs.Settings.{named, next}
use Rattle.settings.proofs.chain.named.Given as goal

abbrev pub invariant-loop : goal.invariant-loop
invariant-loop l = named l.settings l.wanted (chain (next l.settings) l.n l.p) ≡ named l.settings l.wanted (chain (next l.settings) (l.n - l.counter) l.q)
