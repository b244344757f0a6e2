-- 01, Store and sheet: records chained by a next index, where zero ends the chain. `f` gives each record's next.
-- Assumes nothing.
use Prim.Native.Nat.{ℕ, zero, suc, ◌+◌, ◌-◌, ◌≤◌, ◌<◌}
use Rattle.std.proofs.Common.{not-suc-le-zero, le_of_suc-le-suc, sym, ap, ◌∙◌, subst}
use native.Mathlib.Omega.{arith}
use Rattle.std.specs.Prelude.{◌≡◌, ◌≢◌, List, [], ◌∷◌, ◌++◌, eqb, length}
use Rattle.std.proofs.Math.Path.{refl}
use borrow.Author.Tests.{eq-eqb, ne_eqb}
use Rattle.texts.specs.Choice.{when◌then◌else◌}

-- at each element
abbrev pub All : (ℕ → Type 0) → List ℕ → Type 0
All P [] = Unit {0}
All P (x ∷ xs) = P x × All P xs

-- no number stands twice
abbrev pub Distinct : List ℕ → Type 0
Distinct [] = Unit {0}
Distinct (x ∷ xs) = All (λ (y : ℕ). x ≢ y) xs × Distinct xs

-- behind record p stand these records and no others
abbrev pub Linked : (ℕ → ℕ) → ℕ → List ℕ → Type 0
Linked f p [] = f p ≡ 0
Linked f p (x ∷ xs) = (f p ≡ x) × (x ≢ 0) × Linked f x xs

-- the records behind p, at most n
unfoldable pub chain : (ℕ → ℕ) → ℕ → ℕ → List ℕ
chain f zero p = []
chain f (suc n) p = when eqb (f p) 0 then [] else f p ∷ chain f n (f p)

-- the last record of those behind p, p itself if there is none
unfoldable pub end_of : ℕ → List ℕ → ℕ
end_of p [] = p
end_of p (x ∷ xs) = end_of x xs

pub all_map : (P Q : ℕ → Type 0) (xs : List ℕ) → ((x : ℕ) → P x → Q x) → All P xs → All Q xs
all_map P Q [] h a = tt
all_map P Q (x ∷ xs) h a = (h x a.0, all_map P Q xs h a.1)

pub all_append : (P : ℕ → Type 0) (xs ys : List ℕ) → All P xs → All P ys → All P (xs ++ ys)
all_append P [] ys a b = b
all_append P (x ∷ xs) ys a b = (a.0, all_append P xs ys a.1 b)

pub all_left : (P : ℕ → Type 0) (xs ys : List ℕ) → All P (xs ++ ys) → All P xs
all_left P [] ys a = tt
all_left P (x ∷ xs) ys a = (a.0, all_left P xs ys a.1)

pub all_right : (P : ℕ → Type 0) (xs ys : List ℕ) → All P (xs ++ ys) → All P ys
all_right P [] ys a = a
all_right P (x ∷ xs) ys a = all_right P xs ys a.1

pub all_end : (P : ℕ → Type 0) (p : ℕ) (xs : List ℕ) → P p → All P xs → P (end_of p xs)
unfolding end_of
all_end P p [] h a = h
all_end P p (x ∷ xs) h a = all_end P x xs a.0 a.1

pub end_append : (p : ℕ) (xs ys : List ℕ) → end_of p (xs ++ ys) ≡ end_of (end_of p xs) ys
unfolding end_of
end_append p [] ys = refl
end_append p (x ∷ xs) ys = end_append x xs ys

-- a chain is told by walking it
pub chain_linked : (f : ℕ → ℕ) (n p : ℕ) (xs : List ℕ) → Linked f p xs → length xs ≤ n → chain f n p ≡ xs
unfolding chain
chain_linked f zero p [] h l = refl
chain_linked f (suc n) p [] h l = rw (eq-eqb (f p) 0 h)
chain_linked f zero p (x ∷ xs) h l = absurd (not-suc-le-zero l)
chain_linked f (suc n) p (x ∷ xs) h l =
    let e = chain_linked f n x xs h.2 (le_of_suc-le-suc l) in
    rw (h.0, ne_eqb x 0 h.1, e)

-- one record more
pub chain_more : (f : ℕ → ℕ) (n p : ℕ) → f p ≢ 0 → chain f (suc n) p ≡ f p ∷ chain f n (f p)
unfolding chain
chain_more f n p h = rw (ne_eqb (f p) 0 h)

-- the records behind p, told by those behind the next
module _ (f : ℕ → ℕ) where
  pub chain_turn : (left p q : ℕ) → 0 < left → q ≡ f p → q ≢ 0 → chain f left p ≡ q ∷ chain f (left - 1) q
  unfolding chain
  chain_turn zero p q h e n = absurd (not-suc-le-zero h)
  chain_turn (suc left) p q h e n = let k : suc left - 1 ≡ left = omega arith in rw (k, ← e, ne_eqb q 0 n)

  pub chain_stop : (left p : ℕ) → f p ≡ 0 → chain f left p ≡ []
  unfolding chain
  chain_stop zero p e = refl
  chain_stop (suc left) p e = rw (eq-eqb (f p) 0 e)

  pub chain_end : (left p : ℕ) → left ≤ 0 → chain f left p ≡ []
  unfolding chain
  chain_end left p h = let e : left ≡ 0 = omega arith in rw e

-- so there is only one behind a record, and a chain that ends visits no record twice
pub only : (f : ℕ → ℕ) (p : ℕ) (xs ys : List ℕ) → Linked f p xs → Linked f p ys → xs ≡ ys
only f p xs ys h k =
    let n : ℕ = length xs + length ys in
    sym (chain_linked f n p xs h (omega arith)) ∙ chain_linked f n p ys k (omega arith)

apart : (f : ℕ → ℕ) (p q : ℕ) (zs xs : List ℕ) → Linked f p zs → Linked f q xs → length xs ≤ length zs → All (λ (y : ℕ). p ≢ y) xs
apart f p q zs [] h k l = tt
apart f p q zs (y ∷ ys) h k l = (
  (λ e. let s = ap (λ (l : List ℕ). length l) (only f y zs ys (subst (λ (r : ℕ). Linked f r zs) e h) k.2) in absurd (omega arith)),
  apart f p y zs ys h k.2 (omega arith),
)

pub distinct : (f : ℕ → ℕ) (p : ℕ) (xs : List ℕ) → Linked f p xs → All (λ (y : ℕ). p ≢ y) xs × Distinct xs
distinct f p [] h = (tt, tt)
distinct f p (x ∷ xs) h = (apart f p p (x ∷ xs) (x ∷ xs) h h (omega arith), distinct f x xs h.2)

-- a chain is as it was where no record of it has a new next
pub frame : (f g : ℕ → ℕ) (p : ℕ) (xs : List ℕ) → g p ≡ f p → All (λ (x : ℕ). g x ≡ f x) xs → Linked f p xs → Linked g p xs
frame f g p [] e a h = e ∙ h
frame f g p (x ∷ xs) e a h = (e ∙ h.0, h.1, frame f g x xs a.0 a.1 h.2)

-- record n tied behind the end
pub append : (f g : ℕ → ℕ) (p n : ℕ) (xs : List ℕ) → Linked f p xs → n ≢ 0 → p ≢ n → All (λ (x : ℕ). x ≢ n) xs
    → g (end_of p xs) ≡ n → g n ≡ 0 → ((q : ℕ) → q ≢ end_of p xs → q ≢ n → g q ≡ f q) → Linked g p (xs ++ (n ∷ []))
unfolding end_of
append f g p n [] h nz pn a e z o = (e, nz, z)
append f g p n (x ∷ xs) h nz pn a e z o =
    let d = (distinct f p (x ∷ xs) h).0 in
    (o p (all_end (λ (y : ℕ). p ≢ y) x xs d.0 d.1) pn ∙ h.0, h.1, append f g x n xs h.2 nz a.0 a.1 e z o)

-- record s cut out
pub cut : (f g : ℕ → ℕ) (p s : ℕ) (xs ys : List ℕ) → Linked f p (xs ++ s ∷ ys)
    → g (end_of p xs) ≡ f s → ((q : ℕ) → q ≢ end_of p xs → g q ≡ f q) → Linked g p (xs ++ ys)
unfolding end_of
cut f g p s [] [] h e o = e ∙ h.2
cut f g p s [] (y ∷ ys) h e o =
    let d = (distinct f p (s ∷ y ∷ ys) h).0 in
    (e ∙ h.2.0, h.2.1, frame f g y ys (o y (λ z. d.1.0 (sym z))) (all_map (λ (x : ℕ). p ≢ x) (λ (x : ℕ). g x ≡ f x) ys (λ x n. o x (λ z. n (sym z))) d.1.1) h.2.2)
cut f g p s (x ∷ xs) ys h e o =
    let d = (distinct f p (x ∷ xs ++ s ∷ ys) h).0 in
    let k : p ≢ end_of x xs = all_end (λ (y : ℕ). p ≢ y) x xs d.0 (all_left (λ (y : ℕ). p ≢ y) xs (s ∷ ys) d.1) in
    (o p k ∙ h.0, h.1, cut f g x s xs ys h.2 e o)
