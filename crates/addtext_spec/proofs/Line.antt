-- Theorems about `specs/Line.antt`: 01, Lookup: Adding. What a line of a text of entries says, and the first of the refusals 3, 4, 5, 7 and 8 that applies to it.
-- Assumes nothing.
use Rattle.std.specs.Prelude.{ℕ, ◌≡◌, true, false, List, [], length}
use Rattle.std.proofs.Common.{drop_of_length-le, leb-true}
use Rattle.std.proofs.Math.Seq.{take-nil}
use Rattle.texts.specs.Choice.{cases}
use Rattle.texts.specs.Lists.{place}
use Rattle.texts.specs.Text.{blank}
use Rattle.lines.specs.Lines.{ink, inked, field, after_field, is_empty, fields, stripped}
use Rattle.lines.specs.Laws.Turns.{fields_none, fields_more}
use Rattle.addtext_spec.specs.Line.{on_fields, faulty, entry}

-- a field of nothing but blanks has no byte
no_field : (s : List ℕ) → is_empty s ≡ true → field s ≡ []
unfolding is_empty field inked
no_field s h =
    let l = leb-true (length s) (place ink s) h in
    rw (drop_of_length-le s l) (take-nil (place blank []))

-- the fields before the colon, as the code reads them
pub on_word : (s : List ℕ) (phones : List (List ℕ)) → is_empty s ≡ false → on_fields (fields s) phones ≡ entry (stripped (field s)) (field (after_field s)) phones
unfolding on_fields
on_word s phones h =
    cases (is_empty (after_field s))
    (λ e. rw (fields_more s h, fields_none (after_field s) e, no_field (after_field s) e))
    (λ e. rw (fields_more s h, fields_more (after_field s) e))

pub on_nothing : (s : List ℕ) (phones : List (List ℕ)) → is_empty s ≡ true → on_fields (fields s) phones ≡ faulty
unfolding on_fields
on_nothing s phones h = rw (fields_none s h)
