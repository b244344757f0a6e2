-- 01, Letter trees: what a node says, and the walk from a letter's start to a leaf.
-- Assumes nothing.
use Rattle.std.specs.Prelude.{ℕ, zero, suc, ◌+◌, ◌*◌, List, eqb, leb, ltb, length, get_or, Option, Some, None}
use Rattle.texts.specs.Choice.{when◌then◌else◌}
use Rattle.records.specs.Fields.{u16_at}
use Rattle.trees.specs.declared.Node.{Node}
use Rattle.trees.specs.declared.Node.TheVariants.{Leaf, Next, Outside}

-- node n: 255 is a leaf with its phone number; 0 to 7 asks whether that feature is the wanted byte; 8 to 254 never matches
unfoldable pub node_at : List ℕ → List ℕ → ℕ → Node
node_at model features n =
    let at = 6 * n in
    let first = get_or model at 0 in
    let value = get_or model (at + 1) 0 in
    when leb (length model) at then Outside
    else when eqb first 255 then Leaf value
    else when leb first 7 then (when eqb (get_or features first 0) value then Next (u16_at model (at + 2)) else Next (u16_at model (at + 4)))
    else Next (u16_at model (at + 4))

-- a leaf ends the walk, if its number has a phone; a next node goes on; a node outside the model is damage, as None says
abbrev pub on_node : ℕ → (ℕ → Option ℕ) → Node → Option ℕ
on_node phones go (Leaf p) = when ltb p phones then Some p else None
on_node phones go (Next n) = go n
on_node phones go Outside = None

-- the walk from node n over at most `left` nodes
unfoldable pub walk : List ℕ → List ℕ → ℕ → ℕ → ℕ → Option ℕ
walk model features phones zero n = None
walk model features phones (suc left) n = on_node phones (λ (m : ℕ). walk model features phones left m) (node_at model features n)
