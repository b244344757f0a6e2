-- Phones put before a cell of a list. Assumes nothing.
use Prim.Native.Nat.{ℕ, ◌+◌, ◌-◌, ◌*◌, ◌≤◌}
use Prim.Native.Nat.{zero-le}
use native.Mathlib.Nat.{sub-zero}
use native.Mathlib.Omega.{arith}
use mathlib.Core.Path.{◌≡◌, refl, ap, ◌∙◌}
use mathlib.Core.List.{List, [], ◌∷◌, ◌++◌, append_assoc, append-nil}
use mathlib.Core.Option.{some}
use lib.ListN.{length, drop}
use Rattle.records.specs.Records.{put_record, drop_put_record, length_put_record}
use Rattle.cells.specs.Cells.{cell, cells_of, length_cell}
use Rattle.std.proofs.Common.{Some}
use Rattle.lts.specs.Puts.{Puts}

-- a phone put as the cell before `at`
cell_before : (p list list' : List ℕ) (at i : ℕ) → length p ≤ 15 → i + 1 ≡ at → 16 * at ≤ length list → list' ≡ put_record 16 list i (cell p)
    → drop (16 * i) list' ≡ cell p ++ drop (16 * at) list
cell_before p list list' at i hp hi fits e =
    let n : 16 * i + 16 ≡ 16 * at = omega arith in
    rw (e, drop_put_record 16 list i (cell p) (omega arith) (length_cell p hp), n)

pub puts_one : (p list list' : List ℕ) (at : ℕ) → length p ≤ 15 → 1 ≤ at → 16 * at ≤ length list → list' ≡ put_record 16 list (at - 1) (cell p)
    → Puts (some (p ∷ [])) list at (Some (at - 1)) list'
unfolding cells_of
puts_one p list list' at hp h fits e = (refl, (h, rw append-nil (cell_before p list list' at (at - 1) hp (omega arith) fits e)))

pub puts_two : (p q list list₁ list₂ : List ℕ) (at : ℕ) → length p ≤ 15 → length q ≤ 15 → 2 ≤ at → 16 * at ≤ length list
    → list₁ ≡ put_record 16 list (at - 1) (cell q) → list₂ ≡ put_record 16 list₁ (at - 2) (cell p)
    → Puts (some (p ∷ q ∷ [])) list at (Some (at - 2)) list₂
unfolding cells_of
puts_two p q list list₁ list₂ at hp hq h fits e₁ e₂ =
    let l : length list₁ ≡ length list = rw e₁ (length_put_record 16 list (at - 1) (cell q) (omega arith) (length_cell q hq)) in
    let a = cell_before q list list₁ at (at - 1) hq (omega arith) fits e₁ in
    let b = cell_before p list₁ list₂ (at - 1) (at - 2) hp (omega arith) (omega arith) e₂ in
    (refl, (h, rw (append-nil, append_assoc) (b ∙ ap (λ (s : List ℕ). cell p ++ s) a)))

pub puts_none : (list : List ℕ) (at : ℕ) → Puts (some []) list at (Some at) list
unfolding cells_of
puts_none list at = (rw sub-zero, (zero-le, rw sub-zero))
