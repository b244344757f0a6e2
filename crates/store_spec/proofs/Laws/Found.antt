-- Theorems about `specs/Laws/Found.antt`: A search in a sound store, told of its entries: whether one is wanted, and the first that is.
-- Assumes nothing.
use Rattle.std.specs.Prelude.{ℕ, ◌≤◌, ◌≡◌, refl, ◌≢◌, Bool, true, false, List, [], ◌∷◌, ◌++◌, map}
use Rattle.std.proofs.Common.{arith, ap, ◌∙◌, subst, eq-eqb, ne_eqb}
use Rattle.std.proofs.lemmas.List.{map-append}
use Rattle.std.proofs.Math.Option.{none as nothing, some as just}
use Rattle.texts.specs.Lists.{some, first}
use Rattle.records.specs.Chain.{All, end_of, all_left, all_right, all_end}
use Rattle.slots_spec.specs.Slot.{Entry}
use Rattle.store_spec.specs.Store.{next, used, entry_at}
use Rattle.store_spec.specs.Adding.{seek}
use Rattle.store_spec.specs.Sound.{Slot, Sound}
use Rattle.store_spec.proofs.Sound.{entries_are}
use Rattle.store_spec.proofs.Laws.Sought.{Sought, none, found, sought}
use Rattle.store_spec.proofs.Laws.Keys.{either_false, some_append, some_here}
use Rattle.store_spec.proofs.Result.{within}
use Rattle.store_spec.specs.Laws.Found.{found_at, Tells}

first_append : (wanted : Entry → Bool) (xs ys : List Entry) (e : Entry) → some wanted xs ≡ false → wanted e ≡ true → first wanted (xs ++ e ∷ ys) ≡ just e
unfolding first some
first_append wanted [] ys e n w = rw w
first_append wanted (x ∷ xs) ys e n w =
    let s = either_false (wanted x) (some wanted xs) n in
    let ih = first_append wanted xs ys e s.1 w in
    rw (s.0, ih)

first_nothing : (wanted : Entry → Bool) (xs : List Entry) → some wanted xs ≡ false → first wanted xs ≡ nothing
unfolding first some
first_nothing wanted [] n = refl
first_nothing wanted (x ∷ xs) n =
    let s = either_false (wanted x) (some wanted xs) n in
    let ih = first_nothing wanted xs s.1 in
    rw (s.0, ih)

pub found_none : (b : List ℕ) (n : ℕ) → n ≡ 0 → found_at b n ≡ nothing
found_none b n e = rw (eq-eqb n 0 e)

pub found_some : (b : List ℕ) (n : ℕ) → n ≢ 0 → found_at b n ≡ just (entry_at b n)
found_some b n ne = rw (ne_eqb n 0 ne)

pub tells : (b : List ℕ) (wanted : Entry → Bool) (s : Sound b) → Tells b wanted (seek b wanted (used b) 0)
tells b wanted s = go (seek b wanted (used b) 0) (sought b wanted (used b) 0 s.chained s.linked (omega (arith, s.all)))
  where
    low : (l : List ℕ) → All (λ (n : ℕ). n ≤ used b) l → end_of 0 l ≤ used b
    low l a = all_end (λ (n : ℕ). n ≤ used b) 0 l (omega arith) a

    go : (p : ℕ) → Sought b wanted 0 p s.chained → Tells b wanted p
    go p (none a i z) =
        record {
          at = rw i (low s.chained (within b s));
          behind = omega arith;
          whether = rw (entries_are b s, a, eq-eqb (next b p) 0 z);
          which = rw (entries_are b s, first_nothing wanted (map (entry_at b) s.chained) a, eq-eqb (next b p) 0 z);
        }
    go p (found xs ys n a i z o w) =
        let k = (all_right (Slot b) xs (n ∷ ys) (subst (λ (l : List ℕ). All (Slot b) l) a s.each)).0 in
        let l = subst (λ (l : List ℕ). All (λ (n : ℕ). n ≤ used b) l) a (within b s) in
        let m = entries_are b s ∙ ap (λ (l : List ℕ). map (entry_at b) l) a ∙ map-append (entry_at b) xs (n ∷ ys) in
        record {
          at = rw i (low xs (all_left (λ (n : ℕ). n ≤ used b) xs (n ∷ ys) l));
          behind = rw z k.inside;
          whether = rw (m, some_append wanted (map (entry_at b) xs) (entry_at b n ∷ map (entry_at b) ys), o, here n ys w, z, ne_eqb n 0 k.real);
          which = rw (m, first_append wanted (map (entry_at b) xs) (map (entry_at b) ys) (entry_at b n) o w, z, ne_eqb n 0 k.real);
        }
      where
        here : (n : ℕ) (ys : List ℕ) → wanted (entry_at b n) ≡ true → some wanted (entry_at b n ∷ map (entry_at b) ys) ≡ true
        here n ys w = some_here wanted (entry_at b n) (map (entry_at b) ys) w
