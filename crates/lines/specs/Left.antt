-- What the iterators over the fields of a line and the lines of a text have left. Assumes nothing.
use Rattle.std.specs.Prelude.{ℕ, List}
use Rattle.lines.specs.declared.Fields.{Fields}
use Rattle.lines.specs.declared.Lines.{Lines}
use Rattle.lines.specs.Lines.{fields, lines}

abbrev pub fields_left : Fields → List (List ℕ)
fields_left f = fields f.rest.now

abbrev pub lines_left : Lines → List (List ℕ)
lines_left l = lines l.rest.now
