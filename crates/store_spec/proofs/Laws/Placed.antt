-- Adding a tag, a folded word and phones, told by the slot that the search tells.
-- Assumes nothing.
use Rattle.std.specs.Prelude.{ℕ, ◌+◌, ◌≡◌, ◌≢◌, Bool, false, List, leb}
use borrow.Author.Tests.{eq-eqb, ne_eqb}
use Rattle.store_spec.specs.Store.{next, used, slots, is_wanted, same_key}
use Rattle.store_spec.specs.Adding.{seek, cut_out, tied, placed, added, is_full, kept, added_new, entry_for}
use Rattle.store_spec.specs.Sound.{Sound}
use Rattle.store_spec.specs.Laws.Found.{Tells}
use Rattle.store_spec.proofs.Laws.Found.{tells}

module _ (b : List ℕ) (tag : ℕ) (word phones : List ℕ) (exact : Bool) (s : Sound b) (p : ℕ) (told : p ≡ seek b (is_wanted exact false word tag) (used b) 0) where
  pub at : Tells b (is_wanted exact false word tag) p
  at = rw told (tells b (is_wanted exact false word tag) s)

  pub full_new : next b p ≡ 0 → is_full b (entry_for tag word phones exact) ≡ leb (slots b) (used b + 1)
  unfolding is_full same_key entry_for
  full_new z = rw (at.whether, eq-eqb (next b p) 0 z)

  pub kept_new : next b p ≡ 0 → kept b (entry_for tag word phones exact) ≡ added_new b (entry_for tag word phones exact)
  unfolding kept added_new added placed same_key entry_for
  kept_new z = rw (full_new z, ← told, eq-eqb (next b p) 0 z)

  pub full_known : next b p ≢ 0 → is_full b (entry_for tag word phones exact) ≡ false
  unfolding is_full same_key entry_for
  full_known ne = rw (at.whether, ne_eqb (next b p) 0 ne)

  pub kept_known : next b p ≢ 0 → kept b (entry_for tag word phones exact) ≡ tied (cut_out b p) (next b p) (entry_for tag word phones exact)
  unfolding kept added placed same_key entry_for
  kept_known ne = rw (full_known ne, ← told, ne_eqb (next b p) 0 ne)
