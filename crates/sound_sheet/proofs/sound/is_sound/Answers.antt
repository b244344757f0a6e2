-- `sound_sheet::is_sound` meets its contract: the walk decides what is left of the definition. Assumes nothing.
use Rattle.std.proofs.Common.{arith, true}
use Rattle.utterance_spec.specs.Sheet.{is_sound}
use Rattle.utterance_spec.proofs.Laws.Turns.{ordered_sound}
use Rattle.sound_sheet.proofs.sound.is_sound.Goals as goal

pub returns-then-is_parent : goal.returns-then-is_parent
unfolding is_sound
returns-then-is_parent c = grind (arith, ordered_sound c.args.sheet.now true)
