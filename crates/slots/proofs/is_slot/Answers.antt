-- `slots::is_slot` meets its contract: the law of its parts. Assumes nothing.
use Rattle.std.proofs.Common.{arith, rules}
use Rattle.slots_spec.proofs.Laws.Parts.{slot_parts}
use Rattle.slots.proofs.is_slot.Goals as goal

pub returns-then-is_ascii : goal.returns-then-is_ascii
returns-then-is_ascii c = rw (slot_parts c.args.slot.now c.requires (omega (arith, c.type_inv.slot 0))) (search rules)

pub returns-else-is_ascii : goal.returns-else-is_ascii
returns-else-is_ascii c = rw (slot_parts c.args.slot.now c.requires (omega (arith, c.type_inv.slot 0))) (search rules)
