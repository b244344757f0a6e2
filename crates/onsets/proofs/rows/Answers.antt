-- `onsets::rows` meets its contract: the code's table is the quoted rows, each encoded. Assumes nothing.
use mathlib.Core.Path.{refl}
use Rattle.onsets.specs.Onsets.{onsets, encoded}
use Rattle.onsets.proofs.rows.Goals as goal

pub returns : goal.returns
unfolding onsets encoded
returns c = refl
