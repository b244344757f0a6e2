-- A hash of a string, taken byte by byte.
-- Assumes nothing.
use Rattle.std.specs.Prelude.{ℕ, ◌+◌, ◌*◌, ◌%◌, ◌≤◌, ◌<◌, ◌≡◌, List, [], ◌∷◌, length, get_or, drop}
use Rattle.std.proofs.Common.{add-one, drop_of_length-le, drop-cons}

-- the bytes of a string taken into a number
unfoldable pub mixed : ℕ → List ℕ → ℕ
mixed h [] = h
mixed h (x ∷ xs) = mixed ((31 * h + x) % 65536) xs

pub mixed_turn : (h : ℕ) (w : List ℕ) (i : ℕ) → i < length w → mixed h (drop i w) ≡ mixed ((31 * h + get_or w i 0) % 65536) (drop (i + 1) w)
unfolding mixed
mixed_turn h w i l = rw (drop-cons w i 0 l, add-one)

pub mixed_end : (h : ℕ) (w : List ℕ) (i : ℕ) → length w ≤ i → mixed h (drop i w) ≡ h
unfolding mixed
mixed_end h w i l = rw (drop_of_length-le w l)
