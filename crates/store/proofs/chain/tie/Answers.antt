-- `store::tie` meets its contract: the slot's bytes are replaced by the slot of the entry, then the two fields are written. Assumes nothing.
use Rattle.std.proofs.Common.{arith}
use Rattle.slots.specs.Given.{given}
use Rattle.store_spec.proofs.Laws.Turns.{tied_written}
use Rattle.store.proofs.chain.tie.Goals as goal

pub returns : goal.returns
returns c =
    let a = c.args in
    tied_written a.store.now c.write.new.slot c.put_u16.new.s c.put_u16-2.new.s a.n c.u16_at-last.result (given a.entry.now)
    c.u16_at-last.ensures c.write.ensures (omega (arith, c.write.auto.slot)) c.put_u16.ensures c.put_u16-2.ensures
