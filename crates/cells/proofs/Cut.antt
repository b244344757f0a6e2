-- A cell as the code writes it into a list: zeros, a length, a text. Assumes nothing.
use native.Mathlib.Nat.{zero-sub, suc-sub-suc, sub-zero, suc-add}
use native.Mathlib.Numerals.{one-add}
use Prim.Native.Nat.{ℕ, zero, suc, ◌+◌, ◌-◌, ◌*◌, ◌≤◌}
use native.Mathlib.Omega.{arith}
use mathlib.Core.Path.{◌≡◌, sym, ap, ◌∙◌}
use mathlib.Core.List.{List, [], ◌∷◌, ◌++◌, append_assoc}
use lib.ListN.{length, drop, set, replicate}
use lib.Seq.{take_all, take-length, drop-append-le, paste}
use Rattle.records.specs.Records.{put_record}
use Rattle.cells.specs.Cells.{cell, length_cell}

drop_replicate : (n m : ℕ) → drop n (replicate m zero) ≡ replicate (m - n) zero
drop_replicate zero m = rw sub-zero
drop_replicate (suc n) zero = rw zero-sub
drop_replicate (suc n) (suc m) = rw suc-sub-suc (drop_replicate n m)

-- zeros at a place, and a length and a text over them, are the text's cell there
cell_over_zeros : (at : ℕ) (b p : List ℕ) → at + 16 ≤ length b → length p ≤ 15
    → paste (set (paste b at (replicate 16 0) 16) at (length p)) (at + 1) p (length p) ≡ paste b at (cell p) 16
unfolding cell
cell_over_zeros zero b p room h =
    let l : length p ≤ length (replicate 15 zero) = h in
    let w = length_cell p h in
    rw (one-add, take-length p, take_all 15 (p ++ replicate (15 - length p) 0) (omega arith), drop-append-le (length p) (replicate 15 0) (drop 16 b), drop_replicate (length p) 15)
    (sym (append_assoc (length p ∷ p) (replicate (15 - length p) 0) (drop 16 b)))
cell_over_zeros (suc at) [] p room h = absurd (omega arith)
cell_over_zeros (suc at) (x ∷ b) p room h = simp suc-add (ap (λ (l : List ℕ). x ∷ l) (cell_over_zeros at b p (omega arith) h))

-- so they replace a record
pub put : (b z b' p : List ℕ) (i : ℕ) → 16 * i + 16 ≤ length b → length p ≤ 15 → z ≡ paste b (16 * i) (replicate 16 0) 16
    → b' ≡ paste (set z (16 * i) (length p)) (16 * i + 1) p (length p) → b' ≡ put_record 16 b i (cell p)
unfolding put_record
put b z b' p i room h ez e = e ∙ rw ez (cell_over_zeros (16 * i) b p room h)
