-- A word up to byte n without the quote marks at its end: laws that nothing cites since a slice pattern takes them off. Assumes nothing.
use Rattle.std.specs.Prelude.{ℕ, suc, ◌-◌, ◌≤◌, ◌<◌, ◌≡◌, List, [], ◌∷◌, ◌++◌, length, get_or, take}
use Rattle.std.proofs.Common.{arith, sym, ap, ◌∙◌, take-suc}
use Rattle.lines.specs.Lines.{open_end, end_quote, end_other}

-- the word up to byte n, by its last byte
module _ (w : List ℕ) (n : ℕ) (some : 0 < n) (inside : n ≤ length w) where
  last_byte_lem : take n w ≡ take (n - 1) w ++ (get_or w (n - 1) 0 ∷ [])
  last_byte_lem =
      let e : suc (n - 1) ≡ n = omega arith in
      ap (λ (k : ℕ). take k w) (sym e) ∙ take-suc w (n - 1) 0 (omega arith)

  pub open_turn : get_or w (n - 1) 0 ≡ 34 → open_end (take n w) ≡ open_end (take (n - 1) w)
  open_turn e = ap open_end (last_byte_lem ∙ ap (λ (b : ℕ). take (n - 1) w ++ (b ∷ [])) e) ∙ end_quote (take (n - 1) w)

  pub open_stop : (get_or w (n - 1) 0 ≡ 34 → ⊥) → open_end (take n w) ≡ take n w
  open_stop ne = ap open_end last_byte_lem ∙ end_other (take (n - 1) w) (get_or w (n - 1) 0) ne ∙ sym last_byte_lem

pub open_none : (w : List ℕ) (n : ℕ) → n ≤ 0 → open_end (take n w) ≡ []
unfolding open_end
open_none w n h = let e : n ≡ 0 = omega arith in rw e
