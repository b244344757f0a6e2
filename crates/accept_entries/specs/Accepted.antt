-- An accepted second step: the spare is a sound store, and its count, which can rise, is the store's.
-- Assumes nothing.
use Rattle.std.specs.Prelude.{ℕ, ◌≡◌, false, List, eqb}
use Rattle.store_spec.specs.Store.{count, largest}
use Rattle.store_spec.specs.Sound.{Sound}
use Rattle.store_spec.proofs.Sound.{sound}

pub record Fit (store spare : List ℕ) : Type 0 where
  pub sound : Sound spare
  pub seen : count spare ≡ count store
  pub rises : eqb (count store) largest ≡ false
