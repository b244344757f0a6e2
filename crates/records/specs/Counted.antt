-- Different numbers, all of them 1 to n, are at most n; and n of them are all of those.
-- Assumes nothing.
use Rattle.std.specs.Prelude.{ℕ, zero, suc, ◌≤◌, ◌≡◌, ◌≢◌, true, false, ◌||◌, List, [], ◌∷◌, eqb, length}
use Rattle.std.proofs.Common.{arith, eqb-true}
use Rattle.std.proofs.lemmas.Bool.{eqb-false}
use Rattle.texts.specs.Choice.{when◌then◌else◌, cases, never}
use Rattle.texts.specs.Lists.{some}
use Rattle.records.specs.Chain.{All, Distinct}

-- numbered 1 to n
abbrev pub Within : ℕ → ℕ → Type 0
Within n x = (1 ≤ x) × (x ≤ n)

-- a list without the first m
unfoldable without : ℕ → List ℕ → List ℕ
without m [] = []
without m (x ∷ xs) = when eqb x m then xs else x ∷ without m xs

without_length : (m : ℕ) (xs : List ℕ) → length xs ≤ suc (length (without m xs))
unfolding without
without_length m [] = omega arith
without_length m (x ∷ xs) =
    let ih = without_length m xs in
    cases (eqb x m) (λ e. rw e (omega arith)) (λ e. rw e (omega arith))

without_all : (P : ℕ → Type 0) (m : ℕ) (xs : List ℕ) → All P xs → All P (without m xs)
unfolding without
without_all P m [] a = tt
without_all P m (x ∷ xs) a =
    let ih = without_all P m xs a.1 in
    cases (eqb x m) (λ e. rw e a.1) (λ e. rw e (a.0, ih))

without_distinct : (m : ℕ) (xs : List ℕ) → Distinct xs → Distinct (without m xs)
unfolding without
without_distinct m [] d = tt
without_distinct m (x ∷ xs) d =
    let ih = without_distinct m xs d.1 in
    cases (eqb x m) (λ e. rw e d.1) (λ e. rw e (without_all (λ (y : ℕ). x ≢ y) m xs d.0, ih))

-- of numbers 1 to n + 1 that differ, those that are left are 1 to n
below : (n x : ℕ) (xs : List ℕ) → x ≡ suc n → All (Within (suc n)) xs → All (λ (y : ℕ). x ≢ y) xs → All (Within n) xs
below n x [] z a d = tt
below n x (y ∷ ys) z a d = let w = a.0 in let o = d.0 in ((w.0, omega arith), below n x ys z a.1 d.1)

without_within : (n : ℕ) (xs : List ℕ) → All (Within (suc n)) xs → Distinct xs → All (Within n) (without (suc n) xs)
unfolding without
without_within n [] a d = tt
without_within n (x ∷ xs) a d =
    let ih = without_within n xs a.1 d.1 in
    cases (eqb x (suc n))
    (λ e.
    let z : x ≡ suc n = eqb-true x (suc n) e in
    rw e (below n x xs z a.1 d.0))
    (λ e.
    let z : x ≢ suc n = eqb-false x (suc n) e in
    let w = a.0 in
    rw e ((w.0, omega arith), ih))

-- so there are at most n
pub few : (n : ℕ) (xs : List ℕ) → All (Within n) xs → Distinct xs → length xs ≤ n
few zero [] a d = omega arith
few zero (x ∷ xs) a d = let w = a.0 in absurd (omega arith)
few (suc n) xs a d =
    let ih = few n (without (suc n) xs) (without_within n xs a d) (without_distinct (suc n) xs d) in
    omega (arith, without_length (suc n) xs)

not_any : (i : ℕ) (xs : List ℕ) → some (eqb i) xs ≡ false → All (λ (y : ℕ). i ≢ y) xs
unfolding some
not_any i [] h = tt
not_any i (x ∷ xs) h =
    cases (eqb i x)
    (λ e. never (eqb i x || some (eqb i) xs) (rw e) h)
    (λ e. (eqb-false i x e, not_any i xs (rw e at h)))

pub all_met : (n : ℕ) (xs : List ℕ) → All (Within n) xs → Distinct xs → length xs ≡ n → (i : ℕ) → 1 ≤ i → i ≤ n → some (eqb i) xs ≡ true
all_met n xs a d l i lo hi =
    cases (some (eqb i) xs) (λ e. e)
    (λ e. let f = few n (i ∷ xs) ((lo, hi), a) (not_any i xs e, d) in absurd (omega arith))
