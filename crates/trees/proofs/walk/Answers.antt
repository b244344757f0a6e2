-- `trees::walk` meets its contract: what the walk comes to from its node over the turns left is what it comes to. Assumes nothing.
use Rattle.std.specs.Bool.{then_some}
use Rattle.texts.specs.Choice.{when◌then◌else◌}
use Rattle.std.proofs.Common.{ℕ, Bool, true, false, Some, None, List, refl, ◌≡◌, ◌+◌, ◌-◌, ◌*◌, ◌/◌, ◌<◌, arith, sym, ◌∙◌, length, get_or}
use Rattle.records.specs.Fields.{u16_at}
use Rattle.trees.specs.Walk.{node_at, walk}
use Rattle.trees.specs.declared.Node.TheVariants.{Leaf, Next}
use Rattle.trees.proofs.Turn.{Stands, node_leaf, node_match, node_miss, node_never, walk_outside}
use Rattle.trees.proofs.WalkLaws.{walk_turn, walk_end}
use Rattle.trees.proofs.walk.Goals as goal
use Rattle.trees.proofs.walk.Goals.{in-0-to-7+in_ok-at-in-0-to-7, in_default+in_ok-at-in_default, in_default-via-in-0-to-7+else-features-from, in_default-via-else-this-lt8}

-- what the library's test answers, as the definition has it
chosen : (b : Bool) (p : ℕ) → then_some b p ≡ (when b then Some p else None)
chosen true p = refl
chosen false p = refl

-- a turn goes on at the node that is next
onward : (model : List ℕ) (at : ℕ) (features : List ℕ) (phones left to m : ℕ) → 0 < left → node_at model features (at / 6) ≡ Next m
    → (to ≡ 6 * m) × (to < length model) → Stands model to × (walk model features phones left (at / 6) ≡ walk model features phones (left - 1) (to / 6))
onward model at features phones left to m h next t =
    let n : to / 6 ≡ m = omega arith in
    (record { here = omega arith; inside = t.1 }, rw n (walk_turn model features phones left (at / 6) (Next m) h next))

pub returns-then-model-at : goal.returns-then-model-at
returns-then-model-at c =
    let a = c.args in
    sym (walk_outside a.model.now a.features.now a.phones (length a.model.now / 6) a.start (omega arith))

pub returns-in-255 : goal.returns-in-255
returns-in-255 c =
    let l = c.loop in
    let a = c.args in
    let leaf = node_leaf l.invariant.0 a.features.now c.in-255.is in
    c.then_some.ensures ∙ chosen _ _
    ∙ rw c.from.ensures
    (sym (l.invariant.1 ∙ walk_turn a.model.now a.features.now a.phones (length a.model.now / 6 - l.counter) (l.at / 6) (Leaf (get_or a.model.now (l.at + 1) 0)) (omega arith) leaf))

pub returns-in_err-at-in-0-to-7 : goal.returns-in_err-at-in-0-to-7
returns-in_err-at-in-0-to-7 c =
    let l = c.loop in
    let a = c.args in
    let f = a.features.now in
    let left = length a.model.now / 6 - l.counter in
    let m = u16_at a.model.now (l.at + 2) in
    let next = node_match l.invariant.0 f {m = m} refl (omega arith) (rw c.from-then-this-lt8.ensures at c.if-features-from.true) in
    let out = walk_outside a.model.now f a.phones (left - 1) m c.in_err-at-in-0-to-7.ensures in
    c.from_residual.ensures ∙ sym (l.invariant.1 ∙ walk_turn a.model.now f a.phones left (l.at / 6) (Next m) (omega arith) next ∙ out)

pub returns-in_err-at-in_default : goal.returns-in_err-at-in_default
returns-in_err-at-in_default c =
    let l = c.loop in
    let a = c.args in
    let f = a.features.now in
    let left = length a.model.now / 6 - l.counter in
    let m = u16_at a.model.now (l.at + 4) in
    let next : node_at a.model.now f (l.at / 6) ≡ Next m =
    elim c.in_default.branch [
      | in_default-via-in-0-to-7+else-features-from v ↦ node_miss l.invariant.0 f refl (omega arith) (rw v.from-then-this-lt8.ensures at v.if-features-from.false)
      | in_default-via-else-this-lt8 v ↦ node_never l.invariant.0 f refl (omega arith) (λ e. omega arith)
    ] in
    let out = walk_outside a.model.now f a.phones (left - 1) m c.in_err-at-in_default.ensures in
    c.from_residual-in_err-at-in_default.ensures ∙ sym (l.invariant.1 ∙ walk_turn a.model.now f a.phones left (l.at / 6) (Next m) (omega arith) next ∙ out)

pub loop-preserved : goal.loop-preserved
loop-preserved c =
    let l = c.loop in
    let a = c.args in
    let f = a.features.now in
    let left = length a.model.now / 6 - l.counter in
    let n : left - 1 ≡ length a.model.now / 6 - (l.counter + 1) = omega arith in
    elim c.if-this-lt8.branch [
      | in-0-to-7+in_ok-at-in-0-to-7 w ↦
          let next = node_match l.invariant.0 f {m = u16_at a.model.now (l.at + 2)} refl (omega arith) (rw w.from-then-this-lt8.ensures at w.if-features-from.true) in
          let o = onward a.model.now l.at f a.phones left c.if-this-lt8.at _ (omega arith) next (rw w.at-is w.in_ok-at-in-0-to-7.ensures) in
          (o.0, l.invariant.1 ∙ rw n at o.1)
      | in_default+in_ok-at-in_default w ↦
          let next : node_at a.model.now f (l.at / 6) ≡ Next (u16_at a.model.now (l.at + 4)) =
          elim w.in_default.branch [
            | in_default-via-in-0-to-7+else-features-from v ↦ node_miss l.invariant.0 f refl (omega arith) (rw v.from-then-this-lt8.ensures at v.if-features-from.false)
            | in_default-via-else-this-lt8 v ↦ node_never l.invariant.0 f refl (omega arith) (λ e. omega arith)
          ] in
          let o = onward a.model.now l.at f a.phones left c.if-this-lt8.at _ (omega arith) next (rw w.at-is w.in_ok-at-in_default.ensures) in
          (o.0, l.invariant.1 ∙ rw n at o.1)
    ]

pub returns : goal.returns
returns c =
    let l = c.loop in
    let a = c.args in
    sym (l.invariant.1 ∙ walk_end a.model.now a.features.now a.phones (length a.model.now / 6 - l.counter) (l.at / 6) (omega arith))
