-- `texts::fold` meets its contract: 32 times the number. Assumes nothing.
use Rattle.texts.specs.Laws.Folding.{folded_by, folded_byte}
use native.Mathlib.Omega.{arith}
use Rattle.texts.proofs.fold.Goals as goal

pub overflow_mul-result : goal.overflow_mul-result
overflow_mul-result c =
    let b = c.args.b in
    let e = c.capital.ensures in
    omega (arith, e, folded_by b, folded_byte b (omega arith))

pub overflow_add-result : goal.overflow_add-result
overflow_add-result c =
    let b = c.args.b in
    let e = c.capital.ensures in
    omega (arith, e, folded_by b, folded_byte b (omega arith))

pub returns : goal.returns
returns c = rw c.capital.ensures (folded_by c.args.b)
