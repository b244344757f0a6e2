-- A list written at the front of a buffer, element by element: what is written and what is left to write stay the list. Assumes nothing.
use Prim.Native.Nat.{ℕ, ◌+◌, ◌<◌}
use native.Mathlib.Numerals.{add-one}
use native.Mathlib.Omega.{arith}
use mathlib.Core.Path.{◌≡◌, sym}
use mathlib.Core.List.{List, [], ◌∷◌, ◌++◌, append-nil}
use lib.ListN.{length, take, drop, set, take-append-drop}
use lib.Seq.{take-suc-set, append_snoc, drop-set-lt, drop-drop}

module _ (whole out out₀ : List ℕ) (i : ℕ) where
  -- one element more
  pub written_more : (x : ℕ) (rest : List ℕ) → i < length out → whole ≡ take i out ++ x ∷ rest → whole ≡ take (i + 1) (set out i x) ++ rest
  written_more x rest h inv = rw (inv, add-one, take-suc-set out i x h) (sym (append_snoc (take i out) x rest))

  pub untouched_more : (x : ℕ) → drop i out ≡ drop i out₀ → drop (i + 1) (set out i x) ≡ drop (i + 1) out₀
  untouched_more x e =
      let h : i < i + 1 = omega arith in
      rw (drop-set-lt (i + 1) out i x h, ← drop-drop 1 i out, ← drop-drop 1 i out₀, e)

  -- nothing left
  pub written_all : whole ≡ take i out ++ [] → drop i out ≡ drop i out₀ → out ≡ whole ++ drop i out₀
  written_all inv same = rw (inv, append-nil, ← same) (sym (take-append-drop i out))
