-- What a word comes to, in the form of an answer: a refusal; or the source, how many phones, and where the letters stopped.
-- Assumes nothing.
use Rattle.std.specs.Prelude.{Result, Ok, Err}
use Rattle.answers.specs.declared.Answer.{Answer}
use Rattle.answers.specs.declared.Refusal.{Refusal}
use Rattle.answers.specs.Told.{refusal_number, refused, accepted_with}
use Rattle.pipeline_spec.specs.Pronounced.{Sections as Tables, tables}
use Rattle.pipeline.specs.declared.Pronounced.{Pronounced}
use Rattle.pipeline.specs.declared.Sections.{Sections}

abbrev pub told_pronounced : Result Pronounced Refusal → Answer
told_pronounced (Err r) = refused (refusal_number r) 0
told_pronounced (Ok p) = accepted_with p.source p.phones p.stopped 0

-- the six sections
abbrev pub tables_of : Sections → Tables
tables_of s = tables s.lexicon.table.bytes.now s.lexicon.index.now s.lexicon.entries.now s.trees.table.bytes.now s.trees.index.now s.trees.model.now
