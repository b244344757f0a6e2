-- 01, Lookup: Adding. An entry of that key goes, and the new one is last; how the store's bytes change.
-- Assumes nothing.
use Rattle.std.specs.Prelude.{ℕ, zero, suc, ◌+◌, ◌*◌, Bool, not, ◌&&◌, List, [], ◌∷◌, ◌++◌, eqb, leb}
use Rattle.texts.specs.Choice.{when◌then◌else◌}
use Rattle.texts.specs.Lists.{some}
use Rattle.records.specs.Fields.{put16}
use Rattle.records.specs.Records.{put_record}
use Rattle.cells.specs.Cells.{phones_of}
use Rattle.slots_spec.specs.Slot.{Entry, slot}
use Rattle.store_spec.specs.Store.{next, last, used, slots, entries, entry_at, same_key}

-- entries without those of a key
unfoldable pub without : Entry → List Entry → List Entry
without e [] = []
without e (x ∷ xs) = when same_key e x then without e xs else x ∷ without e xs

-- the adding rule
unfoldable pub adding : Entry → List Entry → List Entry
adding e es = without e es ++ (e ∷ [])

-- of the n slots behind p, the one that the first wanted entry stands behind; the last if there is none
unfoldable pub seek : List ℕ → (Entry → Bool) → ℕ → ℕ → ℕ
seek b wanted zero p = p
seek b wanted (suc n) p = when eqb (next b p) 0 then p else when wanted (entry_at b (next b p)) then p else seek b wanted n (next b p)

-- the slot behind p cut out of the chain
unfoldable pub cut_out : List ℕ → ℕ → List ℕ
cut_out b p = put16 (put16 b (512 * p) (next b (next b p))) 2 (when eqb (next b p) (last b) then p else last b)

-- slot n written whole and tied behind the last
unfoldable pub tied : List ℕ → ℕ → Entry → List ℕ
tied b n e = put16 (put16 (put_record 512 b n (slot 0 e)) (512 * last b) n) 2 n

-- a new key takes slot used + 1; a known key keeps its slot and moves last
unfoldable pub placed : List ℕ → Entry → ℕ → List ℕ
placed b e p = when eqb (next b p) 0 then put16 (tied b (used b + 1) e) 4 (used b + 1) else tied (cut_out b p) (next b p) e

unfoldable pub added : List ℕ → Entry → List ℕ
added b e = placed b e (seek b (same_key e) (used b) 0)

-- no entry of that key, and no unused slot (refusal 8)
unfoldable pub is_full : List ℕ → Entry → Bool
is_full b e = not (some (same_key e) (entries b)) && leb (slots b) (used b + 1)

-- the store with an entry added, as it was where there is no room
unfoldable pub kept : List ℕ → Entry → List ℕ
kept b e = when is_full b e then b else added b e

-- the same for a new key
unfoldable pub added_new : List ℕ → Entry → List ℕ
added_new b e = when leb (slots b) (used b + 1) then b else put16 (tied b (used b + 1) e) 4 (used b + 1)

-- the entry of a tag, a word as it is stored, and phones handed in
unfoldable pub entry_for : ℕ → List ℕ → List ℕ → Bool → Entry
entry_for tag word phones exact = record { tag = tag; word = word; phones = phones_of phones; exact = exact }
