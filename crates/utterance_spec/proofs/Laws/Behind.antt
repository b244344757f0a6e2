-- Lists of items and their chains: what is tied behind a chain, and a chain told from its other end.
-- Assumes nothing.
use Rattle.std.specs.Prelude.{ℕ, zero, suc, ◌+◌, ◌≤◌, ◌<◌, ◌≡◌, refl, ◌≢◌}
use Rattle.std.proofs.Common.{add-zero, arith, sym, ap, ◌∙◌}
use mathlib.Core.List.{List, [], ◌∷◌, ◌++◌, reverse_aux}
use Rattle.texts.specs.Lists.{from}
use Rattle.records.specs.Chain.{All, Distinct, Linked, end_of, all_map, all_append, all_end, distinct, frame}
use Rattle.utterance_spec.specs.Append.{head_or}

-- at each element: two facts at once, and the elements in reverse
pub all_both : (P Q : ℕ → Type 0) (xs : List ℕ) → All P xs → All Q xs → All (λ (x : ℕ). P x × Q x) xs
all_both P Q [] h k = tt
all_both P Q (x ∷ xs) h k = ((h.0, k.0), all_both P Q xs h.1 k.1)

pub all_reverse : (P : ℕ → Type 0) (xs zs : List ℕ) → All P xs → All P zs → All P (reverse_aux xs zs)
all_reverse P [] zs h k = k
all_reverse P (x ∷ xs) zs h k = all_reverse P xs (x ∷ zs) h.1 (h.0, k)

pub reverse_append : (xs ys zs : List ℕ) → reverse_aux (xs ++ ys) zs ≡ reverse_aux ys (reverse_aux xs zs)
reverse_append [] ys zs = refl
reverse_append (x ∷ xs) ys zs = reverse_append xs ys (x ∷ zs)

-- the first of two lists, and of a reversed one
pub head_append : (d : ℕ) (xs ys : List ℕ) → head_or d (xs ++ ys) ≡ head_or (head_or d ys) xs
head_append d [] ys = refl
head_append d (x ∷ xs) ys = refl

pub head_reverse : (d : ℕ) (xs zs : List ℕ) → head_or d (reverse_aux xs zs) ≡ end_of (head_or d zs) xs
unfolding end_of
head_reverse d [] zs = refl
head_reverse d (x ∷ xs) zs = head_reverse d xs (x ∷ zs)

-- two lists with no number in common
pub distinct_append : (xs ys : List ℕ) → Distinct xs → Distinct ys → All (λ (x : ℕ). All (λ (y : ℕ). x ≢ y) ys) xs → Distinct (xs ++ ys)
distinct_append [] ys h k a = k
distinct_append (x ∷ xs) ys h k a = (all_append (λ (y : ℕ). x ≢ y) xs ys h.0 a.0, distinct_append xs ys h.1 k a.1)

pub distinct_right : (xs ys : List ℕ) → Distinct (xs ++ ys) → Distinct ys
distinct_right [] ys h = h
distinct_right (x ∷ xs) ys h = distinct_right xs ys h.1

-- numbers from k on
pub from_append : (k m n : ℕ) → from k (m + n) ≡ from k m ++ from (k + m) n
unfolding from
from_append k zero n =
    let e : 0 + n ≡ n = omega arith in
    rw (e, add-zero)
from_append k (suc m) n =
    let e : suc m + n ≡ suc (m + n) = omega arith in
    let f : k + suc m ≡ suc k + m = omega arith in
    rw (e, f) (ap (λ (l : List ℕ). k ∷ l) (from_append (suc k) m n))

pub all_from : (k m : ℕ) → All (λ (x : ℕ). (k ≤ x) × (x < k + m)) (from k m)
unfolding from
all_from k zero = tt
all_from k (suc m) = (omega arith, all_map (λ (x : ℕ). (suc k ≤ x) × (x < suc k + m)) (λ (x : ℕ). (k ≤ x) × (x < k + suc m)) (from (suc k) m) (λ x h. omega arith) (all_from (suc k) m))

pub distinct_from : (k m : ℕ) → Distinct (from k m)
unfolding from
distinct_from k zero = tt
distinct_from k (suc m) = (all_map (λ (x : ℕ). (suc k ≤ x) × (x < suc k + m)) (λ (x : ℕ). k ≢ x) (from (suc k) m) (λ x h. omega arith) (all_from (suc k) m), distinct_from (suc k) m)

-- each has the next one as its f, the last has a
abbrev pub Onto : (ℕ → ℕ) → ℕ → List ℕ → Type 0
Onto f a [] = Unit {0}
Onto f a (x ∷ xs) = (f x ≡ head_or a xs) × Onto f a xs

-- each has the one before it as its f, the first has q
abbrev pub Backed : (ℕ → ℕ) → ℕ → List ℕ → Type 0
Backed f q [] = Unit {0}
Backed f q (x ∷ xs) = (f x ≡ q) × Backed f x xs

pub onto_append : (f : ℕ → ℕ) (a : ℕ) (xs ys : List ℕ) → Onto f (head_or a ys) xs → Onto f a ys → Onto f a (xs ++ ys)
onto_append f a [] ys h k = k
onto_append f a (x ∷ xs) ys h k = (h.0 ∙ sym (head_append a xs ys), onto_append f a xs ys h.1 k)

pub onto_frame : (f g : ℕ → ℕ) (a : ℕ) (xs : List ℕ) → All (λ (x : ℕ). g x ≡ f x) xs → Onto f a xs → Onto g a xs
onto_frame f g a [] e h = tt
onto_frame f g a (x ∷ xs) e h = (e.0 ∙ h.0, onto_frame f g a xs e.1 h.1)

pub backed_append : (f : ℕ → ℕ) (q : ℕ) (xs ys : List ℕ) → Backed f q xs → Backed f (end_of q xs) ys → Backed f q (xs ++ ys)
unfolding end_of
backed_append f q [] ys h k = k
backed_append f q (x ∷ xs) ys h k = (h.0, backed_append f x xs ys h.1 k)

-- such a list is a chain, from its first on and from its last back
pub onto_linked : (f : ℕ → ℕ) (p : ℕ) (xs : List ℕ) → f p ≡ head_or 0 xs → All (λ (x : ℕ). x ≢ 0) xs → Onto f 0 xs → Linked f p xs
onto_linked f p [] e r h = e
onto_linked f p (x ∷ xs) e r h = (e, r.0, onto_linked f x xs h.0 r.1 h.1)

pub backed_linked : (f : ℕ → ℕ) (q p : ℕ) (xs zs : List ℕ) → f p ≡ end_of q xs → All (λ (x : ℕ). x ≢ 0) xs → Backed f q xs
    → ((i : ℕ) → f i ≡ q → Linked f i zs) → Linked f p (reverse_aux xs zs)
unfolding end_of
backed_linked f q p [] zs e r h k = k p e
backed_linked f q p (x ∷ xs) zs e r h k = backed_linked f x p xs (x ∷ zs) e r.1 h.1 (λ i z. (z, r.0, k x h.0))

-- the first of a chain, and a chain begun at another record
pub linked_head : (f : ℕ → ℕ) (p : ℕ) (xs : List ℕ) → Linked f p xs → f p ≡ head_or 0 xs
linked_head f p [] h = h
linked_head f p (x ∷ xs) h = h.0

pub moved : (f g : ℕ → ℕ) (p q : ℕ) (xs : List ℕ) → g q ≡ f p → All (λ (x : ℕ). g x ≡ f x) xs → Linked f p xs → Linked g q xs
moved f g p q [] e a h = e ∙ h
moved f g p q (x ∷ xs) e a h = (e ∙ h.0, h.1, frame f g x xs a.0 a.1 h.2)

-- a chain tied behind another, of which only the last has a new next
pub join : (f g : ℕ → ℕ) (p : ℕ) (xs ys : List ℕ) → Linked f p xs → (p ≢ end_of p xs → g p ≡ f p) → All (λ (x : ℕ). x ≢ end_of p xs → g x ≡ f x) xs
    → Linked g (end_of p xs) ys → Linked g p (xs ++ ys)
unfolding end_of
join f g p [] ys h e a k = k
join f g p (x ∷ xs) ys h e a k =
    let d = (distinct f p (x ∷ xs) h).0 in
    (e (all_end (λ (y : ℕ). p ≢ y) x xs d.0 d.1) ∙ h.0, h.1, join f g x xs ys h.2 a.0 a.1 k)
