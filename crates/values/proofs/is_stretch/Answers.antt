-- `values::is_stretch` meets its contract: both comparisons, which are false of a NaN. Assumes nothing.
use Rattle.std.proofs.Common.{◌∙◌}
use Rattle.std.specs.Float.Ieee.{of_bits}
use Rattle.values.specs.Laws.Bits.{stretch_ordered}
use Rattle.values.proofs.is_stretch.Goals as goal

pub returns : goal.returns
unfolding of_bits
returns c = c.contains.ensures.value ∙ rw (c.new.ensures.start, c.new.ensures.end, c.new.ensures.exhausted) (stretch_ordered c.args.x)
