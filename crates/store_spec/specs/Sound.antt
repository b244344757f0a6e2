-- 01, Store and sheet: what a sound store is, said of its slots in chain order, for any numbering; `is_sound` decides it.
-- Assumes nothing.
use Rattle.std.specs.Prelude.{ℕ, ◌≤◌, ◌<◌, ◌≡◌, ◌≢◌, true, List, map, length, drop}
use Rattle.records.specs.Records.{record_at}
use Rattle.records.specs.Chain.{All, Distinct, Linked, end_of}
use Rattle.slots_spec.specs.Slot.{is_slot}
use Rattle.store_spec.specs.Store.{next, last, used, slots, entry_at, is_store_length, keys_differ, is_rest}

-- a slot in the chain: numbered 1 to used, and sound by itself
pub record Slot (b : List ℕ) (n : ℕ) : Type 0 where
  pub real : n ≢ 0
  pub inside : n ≤ used b
  pub sound : is_slot (record_at 512 b n) ≡ true

-- there is an order of the slots: `used` different ones, numbered 1 to used, chained from slot 0 on; the last is "last", keys differ, and the zero bytes are zero
pub record Sound (b : List ℕ) : Type 0 where
  pub size : is_store_length (length b) ≡ true
  pub room : used b < slots b
  pub zeros : is_rest (drop 6 (record_at 512 b 0)) ≡ true
  pub chained : List ℕ
  pub linked : Linked (next b) 0 chained
  pub once : Distinct chained
  pub all : length chained ≡ used b
  pub each : All (Slot b) chained
  pub end : end_of 0 chained ≡ last b
  pub keys : keys_differ (map (entry_at b) chained) ≡ true
