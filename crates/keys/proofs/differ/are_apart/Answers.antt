-- `keys::are_apart` meets its contract: each entry passed differs from all behind it, so those left behind p decide. Assumes nothing.
use Rattle.std.proofs.Common.{arith, ◌≡◌, ◌≢◌, ℕ, zero, suc, ◌+◌, ◌-◌, ◌<◌, ◌≤◌, Bool, true, not, ◌&&◌, List, [], ◌∷◌, refl, sym, ap, ◌∙◌, length, get_or, drop, map, length-drop}
use Rattle.std.proofs.lemmas.List.{length-map}
use Rattle.texts.specs.Lists.{some}
use Rattle.records.specs.Records.{part_from}
use Rattle.records.specs.Chain.{chain, chain_turn, chain_stop}
use Rattle.store_spec.specs.Store.{next, entry_at, same_key, keys_differ}
use Rattle.store_spec.specs.Laws.Hashes.{hash_at}
use Rattle.store_spec.proofs.Laws.Hashes.{hashes_turn}
use Rattle.keys.proofs.differ.are_apart.Goals as goal

nothing_left : (f : ℕ → ℕ) (left p : ℕ) → 0 < length (chain f left p) → 0 < left
unfolding chain
nothing_left f zero p h = h
nothing_left f (suc left) p h = omega arith

differ : (b l : List ℕ) → Bool
differ b l = keys_differ (map (entry_at b) l)

none_repeated : (b l : List ℕ) → length l ≤ 0 → differ b l ≡ true
unfolding differ keys_differ
none_repeated b [] h = refl
none_repeated b (x ∷ xs) h = absurd (omega arith)

-- the hashes from i on are those of the slots behind p
module _ (b hashes : List ℕ) (n i p : ℕ) (e : drop i hashes ≡ map (hash_at b) (chain (next b) (n - i) p)) where
  as_many : length hashes - i ≡ length (chain (next b) (n - i) p)
  as_many = sym (length-drop i hashes) ∙ ap (λ (l : List ℕ). length l) e ∙ length-map (chain (next b) (n - i) p) (hash_at b)

  -- so a slot stands there, if one of them is left
  more : i < length hashes → (i < n) × (next b p ≢ 0)
  more h = (
    (let k = nothing_left (next b) (n - i) p (omega (arith, as_many)) in omega arith),
    λ z. let k = ap (λ (l : List ℕ). length l) (chain_stop (next b) (n - i) p z) in absurd (omega (arith, as_many)),
  )

  -- it has the first of them, and those behind it have the others
  turn : (q : ℕ) → i < length hashes → q ≡ next b p → (get_or hashes i 0 ≡ hash_at b q) × (drop (i + 1) hashes ≡ map (hash_at b) (chain (next b) (n - (i + 1)) q))
  turn q h eq =
      let m = more h in
      let k : n - i - 1 ≡ n - (i + 1) = omega arith in
      let t = hashes_turn (next b) (hash_at b) hashes i (n - i) p q e (omega (arith, m.0)) eq (λ z. m.1 (sym eq ∙ z)) in
      (t.1, rw (← k) t.2)

  -- it is repeated, or those behind it decide
  split : (q : ℕ) → i < length hashes → q ≡ next b p
      → differ b (chain (next b) (n - i) p) ≡ (not (some (same_key (entry_at b q)) (map (entry_at b) (chain (next b) (n - (i + 1)) q))) && differ b (chain (next b) (n - (i + 1)) q))
  unfolding differ keys_differ
  split q h eq =
      let m = more h in
      let k : n - i - 1 ≡ n - (i + 1) = omega arith in
      rw (← k) (ap (differ b) (chain_turn (next b) (n - i) p q (omega (arith, m.0)) eq (λ z. m.1 (sym eq ∙ z))))

pub overflow_sub-n : goal.overflow_sub-n
overflow_sub-n c =
    let l = c.loop-i in
    let m = more c.args.store.now c.args.hashes.now c.args.n l.i l.p l.invariant.2 c.loop-i-test.true in
    omega (arith, m.0)

pub is_repeated-requires : goal.is_repeated-requires
is_repeated-requires c =
    let l = c.loop-i in
    let s = c.args.hashes.now in
    let t = turn c.args.store.now s c.args.n l.i l.p l.invariant.2 c.next-p.result c.loop-i-test.true c.next-p.ensures.0 in
    (c.next-p.ensures.1, t.0, part_from (l.i + 1) s ∙ t.1)

pub returns-then-is_repeated : goal.returns-then-is_repeated
unfolding differ
returns-then-is_repeated c =
    let l = c.loop-i in
    let d = split c.args.store.now c.args.hashes.now c.args.n l.i l.p l.invariant.2 c.next-p.result c.loop-i-test.true c.next-p.ensures.0 in
    sym (l.invariant.0 ∙ d ∙ rw (sym c.is_repeated.ensures ∙ c.if-is_repeated.true))

pub loop-i-preserved : goal.loop-i-preserved
unfolding differ
loop-i-preserved c =
    let l = c.loop-i in
    let s = c.args.hashes.now in
    let t = turn c.args.store.now s c.args.n l.i l.p l.invariant.2 c.next-p.result c.loop-i-test.true c.next-p.ensures.0 in
    let d = split c.args.store.now s c.args.n l.i l.p l.invariant.2 c.next-p.result c.loop-i-test.true c.next-p.ensures.0 in
    (l.invariant.0 ∙ d ∙ rw (sym c.is_repeated.ensures ∙ c.if-is_repeated.false), c.next-p.ensures.1, t.1)

pub returns : goal.returns
unfolding differ
returns c =
    let l = c.loop-i in
    let k = as_many c.args.store.now c.args.hashes.now c.args.n l.i l.p l.invariant.2 in
    sym (l.invariant.0 ∙ none_repeated c.args.store.now (chain (next c.args.store.now) (c.args.n - l.i) l.p) (omega arith))
