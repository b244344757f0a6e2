-- `records::copy` meets its contract: after j bytes, dst is what pasting j bytes leaves. Assumes nothing.
use Rattle.std.proofs.Common.{◌≡◌, ◌+◌, ℕ, arith, refl, ap, length, get_or, set, length-set, sym, ◌∙◌}
use Rattle.std.proofs.Math.Seq.{paste}
use Rattle.records.specs.Records.{paste_turn, paste_whole}
use Rattle.records.proofs.copy.Goals as goal

pub loop-j-preserved : goal.loop-j-preserved
loop-j-preserved c =
    let a = c.args in
    let l = c.loop-j in
    let z : l.j ≡ 0 + l.j = omega arith in
    let v = get_or a.src.now l.j 0 in
    let t = paste_turn a.dst.now a.src.now 0 l.j v (omega arith) (omega arith) refl in
    (rw l.invariant.0 (ap (λ (n : ℕ). set (paste a.dst.now 0 a.src.now l.j) n v) z ∙ t), simp length-set l.invariant.1)

pub returns : goal.returns
returns c =
    let a = c.args in
    let l = c.loop-j in
    let e : l.j ≡ length a.src.now = omega arith in
    l.invariant.0 ∙ rw e (paste_whole a.dst.now a.src.now (sym c.requires))
