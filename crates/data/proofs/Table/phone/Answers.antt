-- `data::Table::phone` meets its contract: the phone's string stands at its place. Assumes nothing.
use Rattle.std.proofs.Common.{◌<◌, arith, sym, ◌∙◌}
use Rattle.records.specs.Fields.{u32_at}
use Rattle.data.specs.Places.{phone_stands}
use Rattle.data.proofs.Table.phone.Goals as goal

pub phone_at-requires : goal.phone_at-requires
phone_at-requires c =
    let t = c.args.self.now in
    let h : c.from.result < u32_at t.bytes.now 0 = omega arith in
    (phone_stands t.bytes.now t.places.now c.from.result t.is_table t.placed h).fit

pub returns : goal.returns
returns c =
    let t = c.args.self.now in
    let h : c.from.result < u32_at t.bytes.now 0 = omega arith in
    c.phone_at.ensures ∙ rw (← c.from.ensures) (sym (phone_stands t.bytes.now t.places.now c.from.result t.is_table t.placed h).is)
