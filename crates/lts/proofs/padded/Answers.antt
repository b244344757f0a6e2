-- `lts::padded` meets its contract: after i bytes the text is "000#", i folded bytes and "0" behind them. Assumes nothing.
use Rattle.std.proofs.Common.{ℕ, ◌≡◌, ◌+◌, arith, sym, ap, ◌∙◌, length, take, set}
use Rattle.lts.proofs.Fill.{front_more, front_all}
use Rattle.lts.proofs.padded.Goals as goal

pub loop-i-preserved : goal.loop-i-preserved
loop-i-preserved c =
    let l = c.loop-i in
    let w = c.args.word.now in
    rw c.fold.ensures (front_more w l.text l.i c.requires l.invariant (omega arith))

pub returns : goal.returns
returns c =
    let l = c.loop-i in
    let n : length c.args.word.now ≡ l.i = omega arith in
    ap (λ (k : ℕ). take (length c.args.word.now + 8) (set l.text (4 + k) 35)) n ∙ front_all c.args.word.now l.text l.i c.requires l.invariant (sym n)
