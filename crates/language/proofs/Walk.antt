-- A walk over the letters that an iterator gives: the letters left and the state decide. Assumes nothing.
use Rattle.std.specs.Prelude.{ℕ, ◌≡◌, Bool, false, Option, Some, None, List, [], ◌∷◌}
use Rattle.std.proofs.Common.{ap, ◌∙◌, Bor}
use Rattle.std.specs.Iterator.{AlwaysYields}
use Rattle.std.specs.declared.ops.ControlFlow.TheVariants.{Continue, Break}
use Rattle.texts.specs.Text.{folded}
use Rattle.language.specs.Machine.{symbol, moved, on_moved, accepts}

-- what a walk has left where it stands, and that it decides
pub record Walk {S : Type 0} (steps : S → Option (Bor ℕ) → S → Type 0) (table : List ℕ) (it : S) (state : ℕ) (answer : Bool) : Type 0 where
  pub left : List ℕ
  pub comes : AlwaysYields steps (λ x. x.now) it left
  pub decides : answer ≡ accepts table state left

module _ {S : Type 0} (steps : S → Option (Bor ℕ) → S → Type 0) (table : List ℕ) (it : S) (state : ℕ) (answer : Bool) (w : Walk steps table it state answer) where
  module _ (x : Bor ℕ) (next : S) (step : steps it (Some x) next) where
    pub walk_on : (n : ℕ) → moved table state (symbol (folded x.now)) ≡ Continue n → Walk steps table next n answer
    unfolding accepts
    walk_on n e = go w.left w.comes w.decides
      where
        go : (left : List ℕ) → AlwaysYields steps (λ x. x.now) it left → answer ≡ accepts table state left → Walk steps table next n answer
        go [] c d = absurd (c x next step)
        go (y ∷ ys) c d =
            let p = c.1 x next step in
            let m : moved table state (symbol (folded y)) ≡ Continue n = rw (← p.0) e in
            record { left = ys; comes = p.1; decides = d ∙ ap (on_moved (λ (k : ℕ). accepts table k ys)) m }

    pub walk_stops : (b : Bool) → moved table state (symbol (folded x.now)) ≡ Break b → answer ≡ b
    unfolding accepts
    walk_stops b e = go w.left w.comes w.decides
      where
        go : (left : List ℕ) → AlwaysYields steps (λ x. x.now) it left → answer ≡ accepts table state left → answer ≡ b
        go [] c d = absurd (c x next step)
        go (y ∷ ys) c d =
            let p = c.1 x next step in
            let m : moved table state (symbol (folded y)) ≡ Break b = rw (← p.0) e in
            d ∙ ap (on_moved (λ (k : ℕ). accepts table k ys)) m

  pub walk_ends : (next : S) → steps it None next → answer ≡ false
  unfolding accepts
  walk_ends next step = go w.left w.comes w.decides
    where
      go : (left : List ℕ) → AlwaysYields steps (λ x. x.now) it left → answer ≡ accepts table state left → answer ≡ false
      go [] c d = d
      go (y ∷ ys) c d = absurd (c.0 next step)
