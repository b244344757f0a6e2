-- `records::u64_in` meets its contract: eight bytes cut out are the number, the low one first. Assumes nothing.
use Rattle.std.proofs.Common.{◌≡◌, ◌∙◌, ◌+◌, ◌-◌, ap, sym, arith}
use Rattle.std.specs.Int.{w64, from_le_bytes}
use Rattle.records.specs.Laws.Bytes.{u64_le}
use Rattle.records.proofs.u64_in.Goals as goal

pub returns : goal.returns
returns c =
    let e : c.args.k + 8 - c.args.k ≡ 8 = omega arith in
    let h = rw c.unwrap.ensures at c.try_into.ensures in
    c.from_le_bytes.ensures ∙ ap (λ l. from_le_bytes w64 l) (rw e at h.1.same) ∙ sym (u64_le c.args.s.now c.args.k)
