-- A search in a sound store, told of its entries: whether one is wanted, and the first that is.
-- Assumes nothing.
use Rattle.std.specs.Prelude.{ℕ, ◌≤◌, ◌≡◌, Bool, not, List, eqb}
use Rattle.texts.specs.Choice.{when◌then◌else◌}
use Rattle.std.proofs.Math.Option.{Option, none as nothing, some as just}
use Rattle.texts.specs.Lists.{some, first}
use Rattle.slots_spec.specs.Slot.{Entry}
use Rattle.store_spec.specs.Store.{next, used, entry_at, entries}

-- the entry in slot n, none for slot 0
abbrev pub found_at : List ℕ → ℕ → Option Entry
found_at b n = when eqb n 0 then nothing else just (entry_at b n)

-- what the slot that a search tells says of the entries
pub record Tells (b : List ℕ) (wanted : Entry → Bool) (p : ℕ) : Type 0 where
  pub at : p ≤ used b
  pub behind : next b p ≤ used b
  pub whether : some wanted (entries b) ≡ not (eqb (next b p) 0)
  pub which : first wanted (entries b) ≡ found_at b (next b p)
