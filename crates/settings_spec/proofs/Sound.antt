-- Theorems about `specs/Sound.antt`: 02, S-12: what a sound chain of settings is, said of its records in chain order; `is_sound` decides it, both ways.
-- Assumes nothing.
use Rattle.std.specs.Prelude.{ℕ, zero, suc, ◌+◌, ◌*◌, ◌≤◌, ◌<◌, ◌≡◌, refl, ◌≢◌, true, ◌&&◌, ◌||◌, List, [], ◌∷◌, map, eqb, ltb, leb, length, get_or}
use Rattle.std.proofs.Common.{not-suc-le-zero, arith, eqb-true, eq-eqb, ne_eqb, ltb-true, leb-true}
use Rattle.std.proofs.lemmas.Bool.{eqb-false}
use Rattle.texts.specs.Choice.{cases, both_true}
use Rattle.texts.specs.Text.{distinct, same}
use Rattle.records.specs.Chain.{All, Linked, chain, chain_linked, distinct as once}
use Rattle.records.specs.Counted.{Within, few}
use Rattle.settings_spec.specs.Settings.{count, next, name_at, kind_at, is_record, walks, order, is_sound, named, record_of}
use Rattle.settings_spec.specs.Sound.{Record, Sound}

pub record_right : (b : List ℕ) (i : ℕ) → is_record b i ≡ true → Record b i
unfolding is_record
record_right b i h =
    let k = both_true (ltb i (count b) && leb (get_or b (32 * i + 2) 0) 15) (eqb (kind_at b i) 1 || eqb (kind_at b i) 2) h in
    let s = both_true (ltb i (count b)) (leb (get_or b (32 * i + 2) 0) 15) k.0 in
    record { inside = ltb-true i (count b) s.0; short = leb-true (get_or b (32 * i + 2) 0) 15 s.1; kinds = k.1 }

-- the walk finds such a chain
pub walked : (b : List ℕ) (n p : ℕ) → walks b n p ≡ true
    → Linked (next b) p (chain (next b) n p) × All (λ (i : ℕ). is_record b i ≡ true) (chain (next b) n p)
unfolding walks chain
walked b zero p h = (eqb-true (next b p) 0 h, tt)
walked b (suc n) p h =
    cases (eqb (next b p) 0)
    (λ e. rw e (eqb-true (next b p) 0 e, tt))
    (λ e. let g : (is_record b (next b p) && walks b n (next b p)) ≡ true = rw e at h in
    let s = both_true (is_record b (next b p)) (walks b n (next b p)) g in
    let ih = walked b n (next b p) s.1 in
    rw e ((refl, eqb-false (next b p) 0 e, ih.0), (s.0, ih.1)))

-- and every such chain is walked
walks_linked : (b : List ℕ) (n p : ℕ) (xs : List ℕ) → Linked (next b) p xs → All (λ (i : ℕ). is_record b i ≡ true) xs → length xs ≤ n
    → walks b n p ≡ true
unfolding walks
walks_linked b zero p [] l a h = eq-eqb (next b p) 0 l
walks_linked b (suc n) p [] l a h = rw (eq-eqb (next b p) 0 l)
walks_linked b zero p (x ∷ xs) l a h = absurd (not-suc-le-zero h)
walks_linked b (suc n) p (x ∷ xs) l a h =
    let ih = walks_linked b n x xs l.2 a.1 (omega arith) in
    rw (l.0, ne_eqb x 0 l.1, a.0, ih)

-- the records of such a chain are among 1 to the count, so there are no more
within : (b : List ℕ) (p : ℕ) (xs : List ℕ) → Linked (next b) p xs → All (λ (i : ℕ). is_record b i ≡ true) xs → All (Within (count b)) xs
within b p [] l a = tt
within b p (x ∷ xs) l a = let r = (record_right b x a.0).inside in let z = l.1 in ((omega arith, omega arith), within b x xs l.2 a.1)

no_more : (b : List ℕ) (s : Sound b) → length s.chained ≤ count b
no_more b s =
    let xs = s.chained in
    few (count b) xs (within b 0 xs s.linked s.each) (once (next b) 0 xs s.linked).1

-- the decision, in both directions
pub sound : (b : List ℕ) → is_sound b ≡ true → Sound b
unfolding is_sound order
sound b h =
    let s = both_true (walks b (count b) 0) (distinct (map (name_at b) (order b))) h in
    let w = walked b (count b) 0 s.0 in
    record { chained = order b; linked = w.0; each = w.1; names = s.1 }

pub is_sound_lem : (b : List ℕ) → Sound b → is_sound b ≡ true
unfolding is_sound order
is_sound_lem b s =
    let xs = s.chained in
    let l = no_more b s in
    let w = walks_linked b (count b) 0 xs s.linked s.each l in
    let o = chain_linked (next b) (count b) 0 xs s.linked l in
    rw (w, o, s.names)

-- the order of a sound store is its chain
pub order_is : (b : List ℕ) (s : Sound b) → order b ≡ s.chained
unfolding order
order_is b s = chain_linked (next b) (count b) 0 s.chained s.linked (no_more b s)

-- a record that is found is right
named_right : (b name is : List ℕ) → All (λ (i : ℕ). is_record b i ≡ true) is → named b name is ≢ 0 → is_record b (named b name is) ≡ true
unfolding named
named_right b name [] a h = absurd (h refl)
named_right b name (i ∷ is) a h =
    cases (same name (name_at b i))
    (λ e. rw e a.0)
    (λ e. let g : named b name is ≢ 0 = rw e at h in let ih = named_right b name is a.1 g in rw e ih)

pub found_right : (b name : List ℕ) → is_sound b ≡ true → record_of b name ≢ 0 → is_record b (record_of b name) ≡ true
unfolding record_of is_sound order
found_right b name h n =
    let s = both_true (walks b (count b) 0) (distinct (map (name_at b) (order b))) h in
    named_right b name (order b) (walked b (count b) 0 s.0).1 n

pub found_inside : (b name : List ℕ) → is_sound b ≡ true → record_of b name ≢ 0 → record_of b name < count b
found_inside b name h n = (record_right b (record_of b name) (found_right b name h n)).inside
