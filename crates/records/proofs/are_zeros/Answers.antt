-- `records::are_zeros` meets its contract: every byte of a few is zero exactly if the largest is; more are told eight at a time. Assumes nothing.
use Prim.Native.Nat.{ℕ}
use mathlib.Core.Path.{sym, ap, ◌∙◌}
use lib.Dec.{eqb}
use Rattle.texts.specs.Laws.Largest.{zeros_largest}
use Rattle.records.proofs.are_zeros.Goals as goal

pub returns-then-s-lt8 : goal.returns-then-s-lt8
returns-then-s-lt8 c = ap (λ (m : ℕ). eqb m 0) c.largest.ensures ∙ sym (zeros_largest c.args.s.now)
