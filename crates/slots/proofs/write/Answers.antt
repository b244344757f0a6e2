-- `slots::write` meets its contract: each step adds the next bytes to the front that is written, up to all 512. Assumes nothing.
use Rattle.std.proofs.Common.{arith, ◌≡◌, refl, length, Bool, true, false}
use Rattle.std.proofs.lemmas.Grind.{common_steps}
use Rattle.std.specs.Int.{from_bool}
use Rattle.texts.specs.Choice.{bit}
use Rattle.cells.specs.Cells.{phones_of, cells_of, length_phones_of, length_cells_of, phone_fits_lem}
use Rattle.slots_spec.specs.Slot.{slot}
use Rattle.slots.proofs.Front.{slot_written}
use Rattle.slots.proofs.write.Goals as goal

as_bit : (b : Bool) → from_bool b ≡ bit b
as_bit true = refl
as_bit false = refl

pub returns : goal.returns
unfolding slot
returns c =
    let a = c.args.entry.now in
    let w = a.word.now in
    let ps = phones_of a.phones.now in
    let lp = length_phones_of a.phones.now in
    let lc = length_cells_of ps (λ i h. phone_fits_lem a.phones.now i (omega arith)) in
    slot_written c.args.slot.now c.put_u16.new.s c.copy_in.new.dst c.clear.new.dst c.clear-2.new.dst c.put_phones.new.dst c.clear-3.new.dst
    w (cells_of ps) a.tag (length w) (length ps) (bit a.exact)
    c.requires (grind (arith, common_steps)) (grind (arith, common_steps)) (grind (arith, common_steps)) (grind (arith, common_steps)) (grind (arith, common_steps)) (grind (arith, common_steps))
    refl (omega arith) lc (omega arith)
    c.put_u16.ensures c.copy_in.ensures c.clear.ensures (rw (lp, ← as_bit a.exact, ← c.from.ensures) c.clear-2.ensures) (rw lp c.put_phones.ensures) (rw lp c.clear-3.ensures)
