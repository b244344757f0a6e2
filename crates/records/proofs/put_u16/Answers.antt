-- `records::put_u16` meets its contract: the number's bytes are copied in. Assumes nothing.
use Rattle.std.proofs.Common.{arith, refl, sym, ◌∙◌}
use Rattle.std.proofs.lemmas.Slice.{put_mid-paste}
use Rattle.records.specs.Laws.Bytes.{put16_le}
use Rattle.records.proofs.put_u16.Goals as goal

pub returns : goal.returns
returns c =
    let a = c.args in
    put_mid-paste a.k _ a.s.now _ _ 2 (c.copy_from_slice.ensures.after ∙ c.to_le_bytes.ensures) (omega arith) refl
    ∙ sym (put16_le a.s.now a.k a.v (omega arith) (omega arith))
