-- 01, Store and sheet: the chain of a sound store visits every slot 1 to used; `Sound` says that it visits no other, and none twice.
-- Assumes nothing.
use Rattle.std.specs.Prelude.{ℕ, ◌≤◌, ◌≡◌, true, List, eqb}
use Rattle.std.proofs.Common.{arith}
use Rattle.texts.specs.Lists.{some}
use Rattle.records.specs.Chain.{all_map}
use Rattle.records.specs.Counted.{Within, all_met}
use Rattle.store_spec.specs.Store.{used}
use Rattle.store_spec.specs.Sound.{Slot, Sound}

pub slot_met : (b : List ℕ) (s : Sound b) (n : ℕ) → 1 ≤ n → n ≤ used b → some (eqb n) s.chained ≡ true
slot_met b s n lo hi =
    all_met (used b) s.chained (all_map (Slot b) (Within (used b)) s.chained (λ m p. let r = p.real in (omega arith, p.inside)) s.each) s.once s.all n lo hi
