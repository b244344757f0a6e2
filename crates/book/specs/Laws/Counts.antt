-- How the counts of store and spare stand to each other through a list of calls, whatever the entries are: they are equal only where
-- the spare waits to be accepted.
-- Assumes nothing.
use Rattle.std.specs.Prelude.{ℕ, ◌≤◌, ◌≡◌, ◌≢◌, ◌⊎◌}
use Rattle.store_spec.specs.Store.{largest}

-- c the store's count, p the spare's; Waits: the spare has the book's entries and those of the latest accepted first step
pub record Stand (c p : ℕ) (Waits : Type 0) : Type 0 where
  pub bound : c ≤ largest
  pub seen : (p ≤ c) ⊎ (p ≡ largest)
  pub waits : p ≡ c → c ≢ largest → Waits
