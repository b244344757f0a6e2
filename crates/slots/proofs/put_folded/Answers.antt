-- `slots::put_folded` meets its contract: after j bytes, dst is what pasting j folded bytes leaves. Assumes nothing.
use Rattle.std.proofs.Common.{arith, length-set, map, sym, ◌∙◌}
use Rattle.std.proofs.lemmas.List.{length-map}
use Rattle.records.specs.Records.{paste_turn}
use Rattle.texts.specs.Lists.{get_d_map}
use Rattle.texts.specs.Text.{folded}
use Rattle.slots.proofs.put_folded.Goals as goal

pub loop-j-preserved : goal.loop-j-preserved
loop-j-preserved c =
    let a = c.args in
    let w = a.word.now in
    let l = c.loop-j in
    let m = length-map w folded in
    let v = get_d_map folded w l.j 0 0 (omega arith) ∙ sym c.fold.ensures in
    let t = paste_turn a.dst.now (map folded w) a.k l.j c.fold.result (omega arith) (omega arith) v in
    (rw l.invariant.0 t, simp length-set l.invariant.1)
