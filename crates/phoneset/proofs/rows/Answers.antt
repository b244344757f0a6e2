-- `phoneset::rows` meets its contract: the code's table is the quoted rows, each encoded. Assumes nothing.
use mathlib.Core.Path.{refl}
use Rattle.phoneset.specs.Phones.{phones, encoded}
use Rattle.phoneset.proofs.rows.Goals as goal

pub returns : goal.returns
unfolding phones encoded
returns c = refl
