-- `texts::is_ascii` meets its contract: every byte is below 128 exactly if the largest is. Assumes nothing.
use Rattle.texts.specs.Laws.Largest.{ascii_largest}
use Rattle.texts.proofs.is_ascii.Goals as goal

pub returns-then-s-lt8 : goal.returns-then-s-lt8
returns-then-s-lt8 c = c.are_low.ensures

pub returns : goal.returns
returns c = rw (ascii_largest c.args.s.now, c.largest.ensures)
