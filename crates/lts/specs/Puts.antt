-- Phones put into a list of cells, from its end on; what the functions that put them leave and tell.
-- Assumes nothing.
use Rattle.std.specs.Prelude.{ℕ, ◌-◌, ◌*◌, ◌≤◌, ◌≡◌, List, ◌++◌, length, drop, Option as Told, Some, None}
use Rattle.std.proofs.Math.Option.{Option, none, some}
use Rattle.cells.specs.Cells.{cells_of}
use Rattle.lts.specs.declared.Spelled.{Spelled}

-- phones put before cell `at` of a list: from their first cell on stand their cells and then what stood from `at` on
abbrev pub Stand : List (List ℕ) → List ℕ → ℕ → List ℕ → Type 0
Stand ps list at list' = (length ps ≤ at) × (drop (16 * (at - length ps)) list' ≡ cells_of ps ++ drop (16 * at) list)

-- and their first cell is told, None for damage
abbrev pub Puts : Option (List (List ℕ)) → List ℕ → ℕ → Told ℕ → List ℕ → Type 0
Puts none list at r list' = r ≡ None
Puts (some ps) list at r list' = (r ≡ Some (at - length ps)) × Stand ps list at list'

-- the same of a word's phones at the end of a list of 94 cells; told with the place where its letters stop
abbrev pub Spells : Option (List (List ℕ)) → ℕ → List ℕ → Told Spelled → List ℕ → Type 0
Spells none place list r list' = r ≡ None
Spells (some ps) place list r list' = (r ≡ Some (record { first = 94 - length ps; stopped = place })) × Stand ps list 94 list'
