-- Theorems about `specs/Walk.antt`: 01, Letter trees: what a node says, and the walk from a letter's start to a leaf.
-- Assumes nothing.
use Rattle.std.specs.Prelude.{ℕ, zero, suc, ◌-◌, ◌≤◌, ◌<◌, ◌≡◌, refl, Bool, true, false, List, ltb, Some, None}
use Rattle.std.proofs.Common.{not-suc-le-zero, arith, ltb-true}
use Rattle.texts.specs.Choice.{when◌then◌else◌}
use Rattle.trees.specs.declared.Node.{Node}
use Rattle.trees.specs.declared.Node.TheVariants.{Leaf, Next, Outside}
use Rattle.trees.specs.Walk.{node_at, on_node, walk}

-- one node of the walk
pub walk_turn : (model features : List ℕ) (phones left n : ℕ) (x : Node) → 0 < left → node_at model features n ≡ x
    → walk model features phones left n ≡ on_node phones (λ (m : ℕ). walk model features phones (left - 1) m) x
unfolding walk
walk_turn model features phones zero n x h e = absurd (not-suc-le-zero h)
walk_turn model features phones (suc left) n x h e = let k : suc left - 1 ≡ left = omega arith in rw (k, e)

pub walk_end : (model features : List ℕ) (phones left n : ℕ) → left ≤ 0 → walk model features phones left n ≡ None
unfolding walk
walk_end model features phones left n h = let e : left ≡ 0 = omega arith in rw e

-- a leaf that a walk comes to has a phone
pub walk_leaf : (model features : List ℕ) (phones left n p : ℕ) → walk model features phones left n ≡ Some p → p < phones
unfolding walk
walk_leaf model features phones zero n p e = apart e
  where
    apart : None ≡ Some p → p < phones
    apart e = let z : ◌≡◌ {A = ℕ} 0 1 = cc in absurd (omega arith)
walk_leaf model features phones (suc left) n p e = let ih = walk_leaf model features phones left in at (node_at model features n) e (λ m. ih m p)
  where
    leaf : (q : ℕ) (b : Bool) → ltb q phones ≡ b → (when b then Some q else None) ≡ Some p → p < phones
    leaf q true h e = let z : q ≡ p = cc in omega (arith, ltb-true q phones h)
    leaf q false h e = let z : ◌≡◌ {A = ℕ} 0 1 = cc in absurd (omega arith)

    at : (x : Node) → on_node phones (λ (m : ℕ). walk model features phones left m) x ≡ Some p
        → ((m : ℕ) → walk model features phones left m ≡ Some p → p < phones) → p < phones
    at (Leaf q) e ih = leaf q (ltb q phones) refl e
    at (Next m) e ih = ih m e
    at Outside e ih = let z : ◌≡◌ {A = ℕ} 0 1 = cc in absurd (omega arith)
