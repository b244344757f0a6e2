-- 02, S-10: one half of its premise gives the other. Where one order of two add entry calls refuses neither, the other refuses neither.
-- Only room and count depend on what a store holds, and both orders need as many slots and count as often.
-- Assumes nothing.
use Rattle.std.specs.Prelude.{ℕ, ◌≤◌, List, [], ◌∷◌}
use Rattle.store_spec.specs.Store.{count, largest}
use Rattle.entry_order.specs.Calls.{Given, AllAccepted}
use Rattle.entry_order.proofs.Laws.BothOrders.{two_first_lem, one_second}

-- the premise: one order refuses neither call; and a count of at most the largest, as that of a store in bytes is
module _ (one two : Given) (store : List ℕ) (low : count store ≤ largest) (one_then_two : AllAccepted (one ∷ two ∷ []) store) where
  pub other_order : AllAccepted (two ∷ one ∷ []) store
  other_order = (two_first_lem one two store low one_then_two, (one_second one two store low one_then_two, tt))
