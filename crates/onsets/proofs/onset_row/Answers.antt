-- `onsets::onset_row` meets its contract: a row of the table is the quoted row, encoded. Assumes nothing.
use Rattle.std.proofs.Common.{[]}
use Rattle.texts.specs.Lists.{get_d_map}
use Rattle.onsets.specs.Rules.{onset_count}
use Rattle.onsets.specs.Onsets.{onsets, encoded}
use Rattle.onsets.proofs.onset_row.Goals as goal

pub returns : goal.returns
returns c = rw c.rows.ensures (get_d_map encoded onsets c.args.n [] [] (rw onset_count c.requires))
