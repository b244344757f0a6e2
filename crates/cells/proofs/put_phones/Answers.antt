-- `cells::put_phones` meets its contract: after i phones, dst is what pasting i cells leaves. Assumes nothing.
use Rattle.std.proofs.Common.{arith, ◌∙◌}
use Rattle.cells.specs.Cells.{phones_of, length_phones_of, phone_fits_lem, cells_turn}
use Rattle.cells.proofs.put_phones.Goals as goal

pub put_cell-requires : goal.put_cell-requires
put_cell-requires c =
    let l = c.args.list.now in
    let f = phone_fits_lem l c.loop-i.i (omega arith) in
    let e = c.phone.ensures in
    (omega arith, rw e f)

pub loop-i-preserved : goal.loop-i-preserved
loop-i-preserved c =
    let a = c.args in
    let l = a.list.now in
    let i = c.loop-i.i in
    let n = length_phones_of l in
    let t = cells_turn a.dst.now (phones_of l) a.k i (λ j h. phone_fits_lem l j (omega arith)) (omega arith) (omega arith) in
    c.put_cell.ensures ∙ rw (c.loop-i.invariant, c.phone.ensures) t
