-- Bytewise, one string being smaller than another is a strict total order.
-- Assumes nothing.
use Rattle.std.specs.Prelude.{ℕ, ◌<◌, ◌≡◌, refl, Bool, true, false, List, [], ◌∷◌, eqb, ltb}
use Rattle.std.proofs.Common.{arith, sym, ◌∙◌, eqb-true, eq-eqb, ne_eqb, lt-ltb, ltb-true, ltb-false}
use Rattle.std.proofs.lemmas.Bool.{eqb-false}
use Rattle.texts.specs.Choice.{when◌then◌else◌, cases, never, is_false}
use Rattle.texts.specs.Text.{same, smaller, same_true}

-- of two strings with first bytes x and y, the first is smaller: by its first byte, or by the rests, told by s
module _ (x y : ℕ) (s : Bool) where
  by_first : x < y → (when eqb x y then s else ltb x y) ≡ true
  by_first h = rw (ne_eqb x y (λ e. omega arith), lt-ltb x y h)

  by_rests : x ≡ y → s ≡ true → (when eqb x y then s else ltb x y) ≡ true
  by_rests e t = rw (eq-eqb x y e, t)

  by_either : {C : Type 0} → (when eqb x y then s else ltb x y) ≡ true → (x < y → C) → (x ≡ y → s ≡ true → C) → C
  by_either h first rests =
      cases (eqb x y) (λ t. rests (eqb-true x y t) (rw t at h)) (λ f. first (ltb-true x y (rw f at h)))

pub smaller_never_itself : (a : List ℕ) → smaller a a ≡ false
unfolding smaller
smaller_never_itself [] = refl
smaller_never_itself (x ∷ xs) = rw (eq-eqb x x refl) (smaller_never_itself xs)

pub smaller_chain : (a b c : List ℕ) → smaller a b ≡ true → smaller b c ≡ true → smaller a c ≡ true
unfolding smaller
smaller_chain [] [] c p q = never false p refl
smaller_chain [] (y ∷ ys) [] p q = never false q refl
smaller_chain [] (y ∷ ys) (z ∷ zs) p q = refl
smaller_chain (x ∷ xs) [] c p q = never false p refl
smaller_chain (x ∷ xs) (y ∷ ys) [] p q = never false q refl
smaller_chain (x ∷ xs) (y ∷ ys) (z ∷ zs) p q =
    let ih = smaller_chain xs ys zs in
    by_either x y (smaller xs ys) p
    (λ h. by_either y z (smaller ys zs) q
    (λ g. by_first x z (smaller xs zs) (omega arith))
    (λ e t. by_first x z (smaller xs zs) (omega arith)))
    (λ d s. by_either y z (smaller ys zs) q
    (λ g. by_first x z (smaller xs zs) (omega arith))
    (λ e t. by_rests x z (smaller xs zs) (d ∙ e) (ih s t)))

-- two strings neither of which is smaller are the same
pub smaller_neither : (a b : List ℕ) → smaller a b ≡ false → smaller b a ≡ false → a ≡ b
unfolding smaller
smaller_neither [] [] p q = refl
smaller_neither [] (y ∷ ys) p q = never true refl p
smaller_neither (x ∷ xs) [] p q = never true refl q
smaller_neither (x ∷ xs) (y ∷ ys) p q =
    let ih = smaller_neither xs ys in
    cases (eqb x y)
    (λ t. let e = eqb-true x y t in
    let r = ih (rw t at p) (rw (eq-eqb y x (sym e)) at q) in
    cc)
    (λ f. let n = eqb-false x y f in
    let u = ltb-false x y (rw f at p) in
    let v = ltb-false y x (rw (ne_eqb y x (λ e. n (sym e))) at q) in
    absurd (n (omega arith)))

-- not smaller, along two steps
pub larger_chain : (a b c : List ℕ) → smaller b a ≡ false → smaller c b ≡ false → smaller c a ≡ false
larger_chain a b c p q =
    is_false (smaller c a) (λ t. cases (smaller a b)
    (λ s. never (smaller c b) (smaller_chain c a b t s) q)
    (λ s. let e = smaller_neither a b s p in never (smaller c b) (rw e at t) q))

-- smaller than a string that is not smaller than a third
pub smaller_larger : (a b c : List ℕ) → smaller b a ≡ false → smaller b c ≡ true → smaller a c ≡ true
smaller_larger a b c p q =
    cases (smaller a b)
    (λ s. smaller_chain a b c s q)
    (λ s. let e = smaller_neither a b s p in rw e q)

pub smaller_not_same : (a b : List ℕ) → smaller a b ≡ true → same a b ≡ false
smaller_not_same a b h = is_false (same a b) (λ t. let e = same_true a b t in never (smaller b b) (rw e at h) (smaller_never_itself b))
