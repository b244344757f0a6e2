-- `items::write` meets its contract: each step adds the next bytes to the front that is written, up to all 64. Assumes nothing.
use Rattle.items.proofs.Front.{item_written}
use Rattle.items.proofs.write.Goals as goal

pub returns : goal.returns
returns c =
    let a = c.args in
    let f = a.f.now in
    item_written a.dst.now c.put_u16.new.s c.put_u16-2.new.s c.put_u16-3.new.s c.put_u16-4.new.s c.put_u16-5.new.s c.put_u16-6.new.s c.copy_in.new.dst c.clear.new.dst
    (record { kind = f.kind; stress = f.stress; next = f.next; first = f.first; last = f.last; parent = f.parent; prev = f.prev; follow = f.follow; mark = 0; source = f.source; text = f.text.now })
    c.requires.0 c.requires.1
    c.put_u16.ensures c.put_u16-2.ensures c.put_u16-3.ensures c.put_u16-4.ensures c.put_u16-5.ensures c.put_u16-6.ensures c.copy_in.ensures c.clear.ensures
