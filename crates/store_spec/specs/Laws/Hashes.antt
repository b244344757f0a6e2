-- A number for each key, by which most keys are told apart: entries of one key have one hash.
-- Assumes nothing.
use Rattle.std.specs.Prelude.{ℕ, Bool, ◌||◌, List, drop}
use Rattle.texts.specs.Lists.{some}
use Rattle.texts.specs.Text.{is}
use Rattle.texts.specs.Laws.Mixed.{mixed}
use Rattle.slots_spec.specs.Slot.{Entry}
use Rattle.store_spec.specs.Store.{entry_at}

-- the hash of an entry's key
unfoldable pub hash_of : Entry → ℕ
hash_of e = mixed e.tag e.word

-- that of the entry in slot n
unfoldable pub hash_at : List ℕ → ℕ → ℕ
hash_at b n = hash_of (entry_at b n)

-- a hash sought in a list without stopping at it
unfoldable pub some_left : ℕ → List ℕ → Bool → ℕ → Bool
some_left m l found i = found || some (is m) (drop i l)
