-- The fields of a line by where each ends: laws that nothing cites since an iterator goes through them. Assumes nothing.
use Rattle.std.specs.Prelude.{ℕ, ◌≤◌, ◌<◌, ◌≡◌, false, List, [], length, drop}
use Rattle.std.proofs.Common.{arith, ap, length-drop, drop_of_length-le}
use Rattle.lines.specs.Lines.{after_field, is_empty, fields_of, fields}
use Rattle.lines.specs.Laws.Turns.{shorter_field}

-- a field that is there is passed, and past the end there is none
pub field_forward : (s : List ℕ) (at r : ℕ) → drop r s ≡ after_field (drop at s) → is_empty (drop at s) ≡ false → r ≤ length s → at < r
field_forward s at r e h l =
    let f = shorter_field (drop at s) h in
    let a = length-drop at s in
    let b = length-drop r s in
    let c = ap (λ (t : List ℕ). length t) e in
    omega arith

pub fields_past : (s : List ℕ) (at : ℕ) → length s ≤ at → fields (drop at s) ≡ []
unfolding fields fields_of
fields_past s at h = rw (drop_of_length-le s h)
