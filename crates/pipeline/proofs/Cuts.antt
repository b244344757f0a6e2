-- The cuts of a word's phones written one by one. Assumes nothing.
use Rattle.cells.specs.Cells.{length_phones_of}
use Rattle.syllabify.proofs.Written.{written_more, untouched_more, written_all}
use Rattle.pipeline_spec.proofs.Laws.Cuts.{cuts_turn, cuts_end}

pub ruleset cut_turns = (cuts_turn, cuts_end, written_more, untouched_more, written_all, length_phones_of)
