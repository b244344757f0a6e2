-- 01, Store and sheet: a sound store's length, zero bytes and keys in the paper's words, each with the test that decides it, in both directions; and that its slots are sound ones.
-- Assumes nothing.
use Prim.Native.Nat.{ℕ, ◌*◌, ◌≤◌, ◌<◌}
use Rattle.std.specs.Prelude.{◌≡◌, ◌≢◌, length, get_or}
use mathlib.Core.List.{List}
use Rattle.records.specs.Between.{Zero}
use Rattle.slots_spec.specs.Slot.{Entry}

-- a store's length: a multiple of 512, at least 512, up to 65,536
pub record StoreLength (n : ℕ) : Type 0 where
  pub slots : ℕ
  pub whole : n ≡ 512 * slots
  pub from : 512 ≤ n
  pub to : n ≤ 65536

-- slot 0's bytes 6 and 7, and 16 to 511, are zero; those between are the count, and may be anything (02, S-2)
pub record ZeroHead (b : List ℕ) : Type 0 where
  pub before : Zero b 6 8
  pub behind : Zero b 16 512

-- keys differ: at two different places of a chain, where slot n holds entry g n, words or tags differ, or one entry is exact and the other not
abbrev pub KeysDiffer : (ℕ → Entry) → List ℕ → Type 0
KeysDiffer g xs =
    (i j : ℕ) → i ≢ j → i < length xs → j < length xs
    → (g (get_or xs i 0)).word ≡ (g (get_or xs j 0)).word → (g (get_or xs i 0)).tag ≡ (g (get_or xs j 0)).tag
    → (g (get_or xs i 0)).exact ≡ (g (get_or xs j 0)).exact → ⊥
