-- `lexicon::runtime` meets its contract: an exact entry that matches is chosen, failing one the ordinary one. Assumes nothing.
use Rattle.std.proofs.Common.{arith}
use Rattle.std.proofs.lemmas.Grind.{common_steps}
use Rattle.std.proofs.Math.Option.{or_else}
use Rattle.lexicon_spec.specs.Lookup.{chosen_entry}
use Rattle.lexicon.proofs.runtime.Goals as goal

pub returns-clause-which : goal.returns-clause-which
unfolding chosen_entry or_else
returns-clause-which c = let h = c.or_else.ensures in let w = c.oldest_exact.ensures.which in grind (arith, common_steps)
