-- `caseline::read::string_within` ends: each turn reads a piece. Assumes nothing.
use Rattle.std.proofs.Common.{length}
use Rattle.caseline.proofs.read.string_within.Given as goal

abbrev pub decreases-loop-text : goal.decreases-loop-text
decreases-loop-text l = length l.text
