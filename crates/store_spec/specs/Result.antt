-- What adding must leave: a sound store with the adding rule's entries, as long as it was, and its count as it was.
-- Assumes nothing.
use Rattle.std.specs.Prelude.{ℕ, ◌≡◌, List, length, drop}
use Rattle.records.specs.Records.{record_at}
use Rattle.slots_spec.specs.Slot.{Entry}
use Rattle.store_spec.specs.Store.{entries}
use Rattle.store_spec.specs.Adding.{adding}
use Rattle.store_spec.specs.Sound.{Sound}

-- what an added store is: sound, with the adding rule's entries
pub record Added (b c : List ℕ) (e : Entry) : Type 0 where
  pub sound : Sound c
  pub entries : entries c ≡ adding e (entries b)
  pub length : length c ≡ length b
  pub head : drop 6 (record_at 512 c 0) ≡ drop 6 (record_at 512 b 0)
