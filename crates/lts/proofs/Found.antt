-- What is known where all of a word's letters were put at the end of a list of 94 cells. Assumes nothing.
use Prim.Native.Nat.{ℕ, ◌+◌, ◌-◌, ◌*◌}
use native.Mathlib.Omega.{arith}
use mathlib.Core.Path.{◌≡◌, refl, ap, ◌∙◌}
use mathlib.Core.List.{List, [], ◌++◌, append-nil}
use mathlib.Core.Option.{Option, none, some}
use lib.ListN.{length, drop, length-drop, drop_of_length-le}
use Rattle.cells.specs.Cells.{cells_of}
use Rattle.lts.specs.Puts.{Spells}
use Rattle.lts.specs.declared.Spelled.{Spelled}
use Rattle.std.proofs.Common.{Option as Told, Some, None}

pub record Found (o : Option (List (List ℕ))) (stop : ℕ) (s : Spelled) (list : List ℕ) : Type 0 where
  pub phones : List (List ℕ)
  pub is : o ≡ some phones
  pub stopped : s.stopped ≡ stop
  pub count : s.first + length phones ≡ 94
  pub cells : drop (16 * s.first) list ≡ cells_of phones
  pub size : length (cells_of phones) ≡ 16 * length phones

pub found : (o : Option (List (List ℕ))) (stop : ℕ) (list₀ list : List ℕ) (r : Told Spelled) (s : Spelled) → length list₀ ≡ 1504 → length list ≡ 1504 → Spells o stop list₀ r list → r ≡ Some s
    → Found o stop s list
found none stop list₀ list r s l l' p e = let z : ◌≡◌ {A = ℕ} 0 1 = cc in absurd (omega arith)
found (some ps) stop list₀ list r s l l' p e =
    let q = p.0 in
    let m = p.1.0 in
    let k : s ≡ record { first = 94 - length ps; stopped = stop } = cc in
    let f = ap (λ (x : Spelled). x.first) k in
    let none : drop 1504 list₀ ≡ [] = drop_of_length-le list₀ {i = 1504} (omega arith) in
    let c : drop (16 * s.first) list ≡ cells_of ps = rw f (p.1.1 ∙ ap (λ (x : List ℕ). cells_of ps ++ x) none ∙ append-nil (cells_of ps)) in
    let n = ap (λ (x : List ℕ). length x) c in
    record { phones = ps; is = refl; stopped = ap (λ (x : Spelled). x.stopped) k; count = omega arith; cells = c; size = omega (arith, length-drop (16 * s.first) list) }

pub damage : (o : Option (List (List ℕ))) (stop : ℕ) (list₀ list : List ℕ) (r : Told Spelled) → Spells o stop list₀ r list → r ≡ None → o ≡ none
damage none stop list₀ list r p e = refl
damage (some ps) stop list₀ list r p e = let q = p.0 in let z : ◌≡◌ {A = ℕ} 0 1 = cc in absurd (omega arith)
