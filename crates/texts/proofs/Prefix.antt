-- Two lists that agree up to a place, and at it, agree one further. Assumes nothing.
use Prim.Native.Nat.{ℕ, ◌+◌, ◌<◌}
use native.Mathlib.Numerals.{add-one}
use mathlib.Core.Path.{◌≡◌}
use mathlib.Core.List.{List}
use lib.ListN.{length, get_or, take}
use lib.Seq.{take-suc}

pub prefix_more : (a b : List ℕ) (j : ℕ) → j < length a → j < length b → take j a ≡ take j b → get_or a j 0 ≡ get_or b j 0
    → take (j + 1) a ≡ take (j + 1) b
prefix_more a b j ha hb e g = rw (add-one, take-suc a j 0 ha, take-suc b j 0 hb, e, g)
