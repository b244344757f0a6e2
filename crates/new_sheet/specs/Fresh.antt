-- A sheet as new sheet leaves it is sound, has the version asked for and says nothing; only item 0 is written.
-- Assumes nothing.
use Rattle.std.specs.Prelude.{ℕ, []}
use Rattle.items_spec.specs.Item.{Item}

-- item 0 of a new sheet: all its fields are 0 but its version, and it is sound by itself
abbrev pub head_of : ℕ → Item
head_of v = record { kind = 0; stress = v; next = 0; first = 0; last = 0; parent = 0; prev = 0; follow = 0; mark = 0; source = 0; text = [] }
