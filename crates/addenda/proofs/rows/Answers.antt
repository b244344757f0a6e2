-- `addenda::rows` meets its contract: the code's table is the quoted rows, each encoded. Assumes nothing.
use mathlib.Core.Path.{refl}
use Rattle.addenda.specs.Addenda.{addenda, encoded, padded, cells}
use Rattle.addenda.proofs.rows.Goals as goal

pub returns : goal.returns
unfolding addenda encoded padded cells
returns c = refl
