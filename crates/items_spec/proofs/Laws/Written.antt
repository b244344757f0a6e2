-- An item written whole has 64 bytes, is read back as it was, and leaves zeros past its text.
-- Assumes nothing.
use Rattle.std.specs.Prelude.{ℕ, zero, suc, ◌+◌, ◌-◌, ◌*◌, ◌%◌, ◌/◌, ◌≤◌, ◌≡◌, refl, true, length, replicate}
use Rattle.std.proofs.Common.{arith, length-append, drop-drop, le-leb}
use Rattle.std.proofs.lemmas.List.{length-replicate}
use Rattle.std.proofs.Math.Seq.{take-append_seam, drop-append_seam}
use Rattle.texts.specs.Lists.{every}
use Rattle.texts.specs.Text.{is}
use Rattle.records.specs.Fields.{u16_at}
use Rattle.items_spec.specs.Item.{Item, item, item_of, is_clean}

pub length_item : (i : Item) → length i.text ≤ 47 → length (item i) ≡ 64
unfolding item
length_item i h = simp (length-append, length-replicate) (omega arith)

-- a number is its low byte and its high byte
bytes_join : (v : ℕ) → v % 256 + 256 * (v / 256) ≡ v
bytes_join v = omega arith

-- an item is read back
pub item_back : (i : Item) → item_of (item i) ≡ i
unfolding item item_of u16_at
item_back i =
    rw (bytes_join i.next, bytes_join i.first, bytes_join i.last, bytes_join i.parent, bytes_join i.prev, bytes_join i.follow, take-append_seam i.text (replicate (47 - length i.text) 0))

-- zeros are zero
zeros : (n : ℕ) → every (is 0) (replicate n 0) ≡ true
unfolding every is
zeros zero = refl
zeros (suc n) = zeros n

pub item_clean : (i : Item) → length i.text ≤ 47 → is_clean (item i) ≡ true
unfolding item is_clean
item_clean i h =
    rw (le-leb (length i.text) 47 h, ← drop-drop (length i.text) 17 (item i), drop-append_seam i.text (replicate (47 - length i.text) 0))
    (zeros (47 - length i.text))
