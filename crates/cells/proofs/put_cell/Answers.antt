-- `cells::put_cell` meets its contract: a length and a text over zeros are the cell. Assumes nothing.
use mathlib.Core.Path.{◌∙◌}
use native.Mathlib.Omega.{arith}
use lib.ListN.{length-set}
use Rattle.cells.proofs.Cut.{put}
use Rattle.cells.proofs.put_cell.Goals as goal

pub copy_in-requires : goal.copy_in-requires
copy_in-requires c = simp length-set (omega arith)

pub shape_of-list : goal.shape_of-list
shape_of-list c = simp length-set at c.copy_in.auto.dst ∙ c.clear.auto.dst

pub returns : goal.returns
returns c =
    let a = c.args in
    put a.list.now c.clear.new.dst c.copy_in.new.dst a.phone.now a.i (omega arith) (omega arith) c.clear.ensures c.copy_in.ensures
