-- `lts::window` meets its contract: two parts of four bytes, one behind the other. Assumes nothing.
use Rattle.lts.proofs.Fill.{parts}
use Rattle.lts.proofs.window.Goals as goal

pub returns : goal.returns
returns c =
    let a = c.args in
    parts a.text.now a.k c.copy_from_slice.new.self c.copy_from_slice-2.new.self c.requires.0 c.requires.1 c.copy_from_slice.ensures.after c.copy_from_slice-2.ensures.after
