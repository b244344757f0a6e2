-- `accept_entries` meets its contract: each return is decided by the first test of the definition that fails. Assumes nothing.
use native.Mathlib.Omega.{arith}
use mathlib.Core.Path.{◌≡◌, refl, sym, ◌∙◌}
use mathlib.Core.Bool.{Bool, true, false, not, ◌&&◌, ◌||◌}
use mathlib.Core.List.{List}
use Prim.Native.Nat.{ℕ, ◌+◌, ◌≤◌}
use lib.Dec.{eqb}
use lib.ListN.{length}
use borrow.Author.Tests.{not-true, not-false, eq-eqb, ne_eqb}
use Rattle.texts.specs.Choice.{when◌then◌else◌}
use Rattle.answers.specs.declared.Answer.{Answer}
use Rattle.answers.specs.Told.{refused, accepted, written}
use Rattle.store_spec.specs.Store.{is_sound, count, with_count, largest}
use Rattle.store_spec.proofs.Sound.{sound}
use Rattle.store_spec.proofs.Result.{long}
use Rattle.accept_entries.specs.AcceptEntries.{accept_entries, store_after}
use Rattle.accept_entries.proofs.accept_entries.Goals as goal

-- the definition's chain of tests, over what they say: both stores are sound, the counts are equal, the store's is the largest
abbrev chain : Bool → Bool → Bool → Answer
chain sound equal last = when not sound then refused 2 0 else when not equal || last then refused 12 0 else accepted 0 0

stale : (sound equal last : Bool) (before after : List ℕ) → sound ≡ true → equal ≡ false → (refused 12 0 ≡ chain sound equal last) × (before ≡ written (chain sound equal last) before after)
stale sound equal last before after s e = (rw (s, e), rw (s, e))

pub returns-then-not-is_sound : goal.returns-then-not-is_sound
unfolding accept_entries store_after
returns-then-not-is_sound c =
    let t = sym c.is_sound.ensures ∙ c.if-not-is_sound.true in
    record { result_value = rw t; store_after = rw t }

pub returns-then-spare-store : goal.returns-then-spare-store
unfolding accept_entries store_after
returns-then-spare-store c =
    let is_store : is_sound c.args.store.now ≡ true =
    sym c.is_sound.ensures ∙ c.if-not-is_sound.false in
    let t = ne_eqb (length c.args.spare.now) (length c.args.store.now) c.if-spare-store.true in
    let a = is_store in
    record { result_value = rw (a, t); store_after = rw (a, t) }

pub returns-then-not-is_sound-2 : goal.returns-then-not-is_sound-2
unfolding accept_entries store_after
returns-then-not-is_sound-2 c =
    let is_long : eqb (length c.args.spare.now) (length c.args.store.now) ≡ true =
    eq-eqb (length c.args.spare.now) (length c.args.store.now) c.if-spare-store.false in
    let is_store : is_sound c.args.store.now ≡ true =
    sym c.is_sound.ensures ∙ c.if-not-is_sound.false in
    let t = sym c.is_sound-2.ensures ∙ c.if-not-is_sound-2.true in
    let a = is_store in
    let b = is_long in
    record { result_value = rw (a, b, t); store_after = rw (a, b, t) }

pub count-seen-requires : goal.count-seen-requires
count-seen-requires c =
    let is_store : is_sound c.args.store.now ≡ true =
    sym c.is_sound.ensures ∙ c.if-not-is_sound.false in
    let inside : 512 ≤ length c.args.store.now =
    let b = c.args.store.now in long (length b) (sound b (is_store)).size in
    omega (arith, inside, c.if-spare-store.false)

pub count-requires : goal.count-requires
count-requires c =
    let is_store : is_sound c.args.store.now ≡ true =
    sym c.is_sound.ensures ∙ c.if-not-is_sound.false in
    let inside : 512 ≤ length c.args.store.now =
    let b = c.args.store.now in long (length b) (sound b (is_store)).size in
    inside

pub returns-then-seen-largest : goal.returns-then-seen-largest
unfolding accept_entries store_after
returns-then-seen-largest c =
    let is_long : eqb (length c.args.spare.now) (length c.args.store.now) ≡ true =
    eq-eqb (length c.args.spare.now) (length c.args.store.now) c.if-spare-store.false in
    let is_spare : is_sound c.args.spare.now ≡ true =
    sym c.is_sound-2.ensures ∙ c.if-not-is_sound-2.false in
    let is_store : is_sound c.args.store.now ≡ true =
    sym c.is_sound.ensures ∙ c.if-not-is_sound.false in
    let seen : count c.args.spare.now ≡ count c.args.store.now =
    omega (arith, c.count-seen.ensures, c.count.ensures) in
    let q = seen in
    let e = eq-eqb (count c.args.spare.now) (count c.args.store.now) q in
    let t = eq-eqb (count c.args.store.now) largest (sym q ∙ sym c.count-seen.ensures ∙ c.if-seen-largest.true ∙ c.largest.ensures) in
    let a = is_store in
    let b = is_long in
    let d = is_spare in
    record { result_value = rw (a, b, d, e, t); store_after = rw (a, b, d, e, t) }

pub take_spare-requires : goal.take_spare-requires
take_spare-requires c =
    let below : count c.args.spare.now ≡ largest → ⊥ =
    λ e. c.if-seen-largest.false (c.count-seen.ensures ∙ e ∙ sym c.largest.ensures) in
    let is_store : is_sound c.args.store.now ≡ true =
    sym c.is_sound.ensures ∙ c.if-not-is_sound.false in
    let inside : 512 ≤ length c.args.store.now =
    let b = c.args.store.now in long (length b) (sound b (is_store)).size in
    (inside, c.if-spare-store.false, below)

pub shape_of-store : goal.shape_of-store
shape_of-store c = c.take_spare.auto.store

pub returns : goal.returns
unfolding accept_entries store_after
returns c =
    let below : count c.args.spare.now ≡ largest → ⊥ =
    λ e. c.if-seen-largest.false (c.count-seen.ensures ∙ e ∙ sym c.largest.ensures) in
    let is_long : eqb (length c.args.spare.now) (length c.args.store.now) ≡ true =
    eq-eqb (length c.args.spare.now) (length c.args.store.now) c.if-spare-store.false in
    let is_spare : is_sound c.args.spare.now ≡ true =
    sym c.is_sound-2.ensures ∙ c.if-not-is_sound-2.false in
    let is_store : is_sound c.args.store.now ≡ true =
    sym c.is_sound.ensures ∙ c.if-not-is_sound.false in
    let seen : count c.args.spare.now ≡ count c.args.store.now =
    omega (arith, c.count-seen.ensures, c.count.ensures) in
    let q = seen in
    let e = eq-eqb (count c.args.spare.now) (count c.args.store.now) q in
    let t = ne_eqb (count c.args.store.now) largest (λ z. below (q ∙ z)) in
    let a = is_store in
    let b = is_long in
    let d = is_spare in
    record { result_value = rw (a, b, d, e, t); store_after = c.take_spare.ensures ∙ rw (a, b, d, e, t) }

pub returns-then-seen-count : goal.returns-then-seen-count
unfolding accept_entries store_after
returns-then-seen-count c =
    let is_long : eqb (length c.args.spare.now) (length c.args.store.now) ≡ true =
    eq-eqb (length c.args.spare.now) (length c.args.store.now) c.if-spare-store.false in
    let is_spare : is_sound c.args.spare.now ≡ true =
    sym c.is_sound-2.ensures ∙ c.if-not-is_sound-2.false in
    let is_store : is_sound c.args.store.now ≡ true =
    sym c.is_sound.ensures ∙ c.if-not-is_sound.false in
    let s = c.args.store.now in
    let p = c.args.spare.now in
    let t = ne_eqb (count p) (count s) (λ e. c.if-seen-count.true (c.count-seen.ensures ∙ e ∙ sym c.count.ensures)) in
    let a = is_store in
    let b = is_long in
    let d = is_spare in
    let r = stale (is_sound s && eqb (length p) (length s) && is_sound p) (eqb (count p) (count s)) (eqb (count s) largest) s (with_count p (count p + 1)) (rw (a, b, d)) t in
    record { result_value = r.0; store_after = r.1 }
