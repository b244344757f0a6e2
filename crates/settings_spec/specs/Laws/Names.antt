-- A table that gives a record for a name: where it gives each record of a chain back for its own name, no two records have one name, whatever is in it.
-- Assumes nothing.
use Prim.Native.Nat.{ℕ, zero, suc, ◌+◌, ◌*◌, ◌/◌, ◌%◌}
use Rattle.std.specs.Prelude.{get_or}
use mathlib.Core.List.{List, [], ◌∷◌}
use Rattle.std.proofs.Math.Dec.{eqb}
use Rattle.texts.specs.Choice.{when◌then◌else◌}
use Rattle.texts.specs.Text.{same}
use Rattle.texts.specs.Laws.Mixed.{mixed}
use Rattle.settings_spec.specs.Settings.{name_at, record_of}

-- where a name is sought first, of 4,096 places
unfoldable pub place_of : List ℕ → ℕ
place_of name = mixed 0 name * 40503 % 65536 / 16

-- in n places from k on, up to a free one, the first record of this name; where there is none, the store's
unfoldable pub sought : List ℕ → List ℕ → List ℕ → ℕ → ℕ → ℕ
sought b table name zero k = record_of b name
sought b table name (suc n) k =
    when eqb (get_or table k 0) 0 then record_of b name
    else when same name (name_at b (get_or table k 0)) then get_or table k 0
    else sought b table name n ((k + 1) % 4096)

-- the record that a table gives for a name
unfoldable pub given : List ℕ → List ℕ → List ℕ → ℕ
given b table name = sought b table name 64 (place_of name)

-- of some records the first that is not given for its own name
unfoldable pub first_lost : List ℕ → List ℕ → List ℕ → ℕ
first_lost b table [] = 0
first_lost b table (i ∷ is) = when eqb (given b table (name_at b i)) i then first_lost b table is else i
