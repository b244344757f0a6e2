-- Whether a store has an exact entry, told of its slots by number: where none has, all its entries are ordinary.
-- Assumes nothing.
use Rattle.std.specs.Prelude.{ℕ, zero, suc, Bool, false, ◌||◌, List}
use Rattle.store_spec.specs.Store.{entry_at}

-- one of the slots 1 to n holds an exact entry
unfoldable pub has_exact : List ℕ → ℕ → Bool
has_exact b zero = false
has_exact b (suc n) = (entry_at b (suc n)).exact || has_exact b n
