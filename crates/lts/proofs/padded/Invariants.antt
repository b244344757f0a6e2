-- `lts::padded` meets its contract: after i bytes the text is "000#", i folded bytes and "0" behind them. Assumes nothing.
use Rattle.std.proofs.Common.{◌≡◌, ◌-◌, ◌++◌}
use Rattle.std.specs.Prelude.{replicate}
use Rattle.lts.proofs.Fill.{front}
use Rattle.lts.proofs.padded.Given as goal

abbrev pub invariant-loop-i : goal.invariant-loop-i
invariant-loop-i l =
    l.text ≡ front l.word l.i ++ replicate (51 - l.i) 48
