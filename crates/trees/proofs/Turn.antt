-- What a node says, by the place of its first byte; and a walk from a node outside the model. Assumes nothing.
use Rattle.std.proofs.Common.{ℕ, zero, suc, None, refl, ◌+◌, ◌*◌, ◌/◌, ◌≤◌, ◌<◌, ◌≡◌, ◌≢◌, arith, List, length, get_or}
use borrow.Author.Tests.{le-leb, lt-leb, eq-eqb, ne_eqb}
use Rattle.records.specs.Fields.{u16_at}
use Rattle.trees.specs.Walk.{node_at, walk}
use Rattle.trees.specs.declared.Node.TheVariants.{Leaf, Next, Outside}

pub node_outside : (model features : List ℕ) (n : ℕ) → length model ≤ 6 * n → node_at model features n ≡ Outside
unfolding node_at
node_outside model features n h = rw (le-leb (length model) (6 * n) h)

-- a walk from a node outside the model is damaged, however many nodes are left
pub walk_outside : (model features : List ℕ) (phones left n : ℕ) → length model ≤ 6 * n → walk model features phones left n ≡ None
unfolding walk
walk_outside model features phones zero n h = refl
walk_outside model features phones (suc left) n h = rw (node_outside model features n h)

-- a node of the model stands here
pub record Stands (model : List ℕ) (at : ℕ) : Type 0 where
  pub here : 6 * (at / 6) ≡ at
  pub inside : at < length model

module _ {model : List ℕ} {at : ℕ} (s : Stands model at) (features : List ℕ) where
  pub node_leaf : get_or model at 0 ≡ 255 → node_at model features (at / 6) ≡ Leaf (get_or model (at + 1) 0)
  unfolding node_at
  node_leaf e = rw (s.here, lt-leb (length model) at s.inside, eq-eqb (get_or model at 0) 255 e)

  pub node_match : {m : ℕ} → m ≡ u16_at model (at + 2) → get_or model at 0 ≤ 7 → get_or features (get_or model at 0) 0 ≡ get_or model (at + 1) 0
      → node_at model features (at / 6) ≡ Next m
  unfolding node_at
  node_match f low e =
      rw (
        s.here,
        lt-leb (length model) at s.inside,
        ne_eqb (get_or model at 0) 255 (omega arith),
        le-leb (get_or model at 0) 7 low,
        eq-eqb (get_or features (get_or model at 0) 0) (get_or model (at + 1) 0) e,
        ← f,
      )

  pub node_miss : {m : ℕ} → m ≡ u16_at model (at + 4) → get_or model at 0 ≤ 7 → get_or features (get_or model at 0) 0 ≢ get_or model (at + 1) 0
      → node_at model features (at / 6) ≡ Next m
  unfolding node_at
  node_miss f low e =
      rw (
        s.here,
        lt-leb (length model) at s.inside,
        ne_eqb (get_or model at 0) 255 (omega arith),
        le-leb (get_or model at 0) 7 low,
        ne_eqb (get_or features (get_or model at 0) 0) (get_or model (at + 1) 0) e,
        ← f,
      )

  pub node_never : {m : ℕ} → m ≡ u16_at model (at + 4) → 7 < get_or model at 0 → get_or model at 0 ≢ 255
      → node_at model features (at / 6) ≡ Next m
  unfolding node_at
  node_never f high e = rw (s.here, lt-leb (length model) at s.inside, ne_eqb (get_or model at 0) 255 e, lt-leb (get_or model at 0) 7 high, ← f)
