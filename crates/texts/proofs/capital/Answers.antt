-- `texts::capital` meets its contract: counted from 65 on, round 256, the capitals are 0 to 25. Assumes nothing.
use native.Mathlib.Omega.{arith}
use Rattle.texts.specs.Laws.Folding.{capital_by}
use Rattle.texts.proofs.capital.Goals as goal

pub returns : goal.returns
returns c = capital_by c.args.b _ (λ l. omega arith) (λ l r. omega arith) (λ l. omega arith)
