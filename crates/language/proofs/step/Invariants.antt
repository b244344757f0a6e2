-- `language::step` meets its contract: no cell passed has the symbol, so the cells left decide; a cell's place gives both its bytes. Assumes nothing.
use Rattle.std.proofs.Common.{◌≡◌, drop}
use Rattle.language.specs.Machine.{cells, step, scan}
use Rattle.language.proofs.step.Given as goal

abbrev pub invariant-loop-i : goal.invariant-loop-i
invariant-loop-i l =
    step (cells l.table) l.state l.symbol ≡ scan (drop l.i (cells l.table)) l.symbol
