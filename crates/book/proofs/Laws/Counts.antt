-- Theorems about `specs/Laws/Counts.antt`: How the counts of store and spare stand to each other through a list of calls, whatever the entries are: they are equal only where
-- the spare waits to be accepted.
-- Assumes nothing.
use Rattle.std.specs.Prelude.{ℕ, ◌+◌, ◌≤◌, ◌≡◌, refl, ◌≢◌, ◌⊎◌}
use Rattle.std.proofs.Common.{arith, inl, inr}
use Rattle.store_spec.specs.Store.{largest}
use Rattle.book.specs.Laws.Counts.{Stand}

-- at first both counts are 0
pub begin : {F : Type 0} → F → Stand 0 0 F
begin f = record { bound = omega arith; seen = inl (omega arith); waits = λ e l. f }

-- an accepted call that raises the store's count and leaves the spare
pub raised : {F G : Type 0} (c p : ℕ) → Stand c p F → c ≢ largest → Stand (c + 1) p G
raised c p s n =
    record {
      bound = let b = s.bound in omega arith;
      seen = go s.seen;
      waits = λ e l. absurd (no s.seen e l);
    }
  where
    go : (p ≤ c) ⊎ (p ≡ largest) → (p ≤ c + 1) ⊎ (p ≡ largest)
    go (inl h) = inl (omega arith)
    go (inr h) = inr h

    no : (p ≤ c) ⊎ (p ≡ largest) → p ≡ c + 1 → c + 1 ≢ largest → ⊥
    no (inl h) e l = omega arith
    no (inr h) e l = omega arith

-- an accepted first step: the spare has the count seen
pub shown : {F G : Type 0} (c p : ℕ) → Stand c p F → G → Stand c c G
shown c p s g = record { bound = s.bound; seen = inl (omega arith); waits = λ e l. g }

-- a stop at a line
pub halted : {F G : Type 0} (c p : ℕ) → Stand c p F → Stand c largest G
halted c p s = record { bound = s.bound; seen = inr refl; waits = λ e l. absurd (omega (arith, e, l)) }
