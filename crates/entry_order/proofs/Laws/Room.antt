-- Room for an entry behind another: an added entry takes a slot only where its key is new, and says nothing of any other key.
-- Assumes nothing.
use Rattle.std.specs.Prelude.{ℕ, ◌+◌, ◌/◌, ◌<◌, ◌≡◌, refl, Bool, true, false, ◌||◌, List, [], ◌∷◌, length}
use Rattle.std.proofs.Common.{arith, ap, ◌∙◌, length-append, leb-false}
use Rattle.std.proofs.Math.Bool.{or-false, or-true}
use Rattle.std.proofs.lemmas.Bool.{lt-leb}
use Rattle.texts.specs.Choice.{bit, cases, never, is_false}
use Rattle.texts.specs.Lists.{some}
use Rattle.slots_spec.specs.Slot.{Entry}
use Rattle.store_spec.specs.Store.{entries, used, slots, same_key, keys_differ}
use Rattle.store_spec.specs.Adding.{without, adding, is_full}
use Rattle.store_spec.specs.Sound.{Sound}
use Rattle.store_spec.proofs.Sound.{entries_are}
use Rattle.store_spec.proofs.Result.{used_is}
use Rattle.store_spec.proofs.Laws.Keys.{key_turn, key_both, some_append, one_goes}
use Rattle.add_entry.specs.Accepted.{Entered}

-- taking out one key leaves another where it is
some_without : (e f : Entry) (es : List Entry) → same_key f e ≡ false → some (same_key f) (without e es) ≡ some (same_key f) es
unfolding without some
some_without e f [] n = refl
some_without e f (x ∷ xs) n =
    let ih = some_without e f xs n in
    cases (same_key e x)
    (λ k. let z = is_false (same_key f x) (λ h. never (same_key f e) (key_both f x e h ∙ key_turn e x k) n) in rw (k, z) ih)
    (λ k. rw (k, ih))

some_adding : (e f : Entry) (es : List Entry) → same_key f e ≡ false → some (same_key f) (adding e es) ≡ some (same_key f) es
unfolding adding some
some_adding e f es n =
    some_append (same_key f) (without e es) (e ∷ [])
    ∙ ap (λ (t : Bool). some (same_key f) (without e es) || (t || false)) n
    ∙ or-false (some (same_key f) (without e es))
    ∙ some_without e f es n

-- an entry that was added has its key
some_last : (e f : Entry) (es : List Entry) → same_key f e ≡ true → some (same_key f) (adding e es) ≡ true
unfolding adding some
some_last e f es h =
    some_append (same_key f) (without e es) (e ∷ [])
    ∙ ap (λ (t : Bool). some (same_key f) (without e es) || (t || false)) h
    ∙ or-true (some (same_key f) (without e es))

-- how many entries there are behind an add
length_adding : (e : Entry) (es : List Entry) → keys_differ es ≡ true → length (adding e es) + bit (some (same_key e) es) ≡ length es + 1
unfolding adding
length_adding e es d = let l = length-append (without e es) (e ∷ []) in let g = one_goes e es d in omega (arith, l, g)

-- where there is room for an entry: its key is there, or a slot is unused
pub has_room : (b : List ℕ) (e : Entry) → (some (same_key e) (entries b) ≡ false → used b + 1 < slots b) → is_full b e ≡ false
unfolding is_full
has_room b e h = cases (some (same_key e) (entries b)) (λ k. rw k) (λ k. rw (k, lt-leb (slots b) (used b + 1) (h k)))

pub free_slot : (b : List ℕ) (e : Entry) → is_full b e ≡ false → some (same_key e) (entries b) ≡ false → used b + 1 < slots b
unfolding is_full
free_slot b e h k = leb-false (slots b) (used b + 1) (rw k at h)

-- what one accepted call means for the room that another finds
pub record Behind (b c : List ℕ) (e : Entry) : Type 0 where
  pub slots : slots c ≡ slots b
  pub known : some (same_key e) (entries b) ≡ true → used c ≡ used b
  pub new : some (same_key e) (entries b) ≡ false → used c ≡ used b + 1
  pub others : (f : Entry) → same_key f e ≡ false → some (same_key f) (entries c) ≡ some (same_key f) (entries b)
  pub its : (f : Entry) → same_key f e ≡ true → some (same_key f) (entries c) ≡ true

pub behind : (b c : List ℕ) (e : Entry) → Sound b → Entered b c e → Behind b c e
behind b c e s h =
    let l = length_adding e (entries b) (rw (entries_are b s) s.keys) in
    let u = used_is b s in
    let v = used_is c h.sound ∙ ap (λ (es : List Entry). length es) h.entries in
    record {
      slots = ap (λ (n : ℕ). n / 512) h.length;
      known = λ k. let m : length (adding e (entries b)) + 1 ≡ length (entries b) + 1 = rw k at l in omega (arith, m, u, v);
      new = λ k. let m : length (adding e (entries b)) + 0 ≡ length (entries b) + 1 = rw k at l in omega (arith, m, u, v);
      others = λ f n. ap (some (same_key f)) h.entries ∙ some_adding e f (entries b) n;
      its = λ f k. ap (some (same_key f)) h.entries ∙ some_last e f (entries b) k;
    }
