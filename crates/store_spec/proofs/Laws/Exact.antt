-- Theorems about `specs/Laws/Exact.antt`: Whether a store has an exact entry, told of its slots by number: where none has, all its entries are ordinary.
-- Assumes nothing.
use Rattle.std.specs.Prelude.{ℕ, zero, suc, ◌+◌, ◌-◌, ◌*◌, ◌≤◌, ◌<◌, ◌≢◌, ◌≡◌, refl, true, false, List, [], ◌∷◌, map, eqb, get_or}
use Rattle.std.proofs.Common.{arith, ap, ◌∙◌, eqb-true}
use Rattle.std.proofs.lemmas.Bool.{eqb-false}
use Rattle.texts.specs.Choice.{cases}
use Rattle.texts.specs.Lists.{every}
use Rattle.records.specs.Records.{byte_of}
use Rattle.records.specs.Chain.{All}
use Rattle.slots_spec.specs.Slot.{entry_of, is_ordinary}
use Rattle.store_spec.specs.Store.{used, entry_at, entries}
use Rattle.store_spec.specs.Sound.{Slot, Sound}
use Rattle.store_spec.proofs.Sound.{entries_are}
use Rattle.store_spec.proofs.Laws.Keys.{either_false}
use Rattle.store_spec.specs.Laws.Exact.{has_exact}

-- byte 52 of slot n tells whether its entry is exact
pub exact_at : (b : List ℕ) (n : ℕ) → eqb (get_or b (512 * n + 52) 0) 1 ≡ (entry_at b n).exact
unfolding entry_at entry_of
exact_at b n = rw (byte_of 512 b n 52 (omega arith))

-- from the last slot down: one that is exact, one that is not, and the end
pub exact_hit : (b : List ℕ) (k : ℕ) → 0 < k → (entry_at b k).exact ≡ true → has_exact b k ≡ true
unfolding has_exact
exact_hit b zero l h = absurd (omega arith)
exact_hit b (suc k) l h = rw h

pub exact_turn : (b : List ℕ) (k : ℕ) → 0 < k → (entry_at b k).exact ≡ false → has_exact b k ≡ has_exact b (k - 1)
unfolding has_exact
exact_turn b zero l h = absurd (omega arith)
exact_turn b (suc k) l h = let z : suc k - 1 ≡ k = omega arith in rw (h, z)

pub exact_end : (b : List ℕ) (k : ℕ) → k ≤ 0 → has_exact b k ≡ false
unfolding has_exact
exact_end b zero l = refl
exact_end b (suc k) l = absurd (omega arith)

-- where none is exact, each of them holds an ordinary entry
each_ordinary : (b : List ℕ) (n : ℕ) → has_exact b n ≡ false → (k : ℕ) → k ≢ 0 → k ≤ n → is_ordinary (entry_at b k) ≡ true
unfolding has_exact is_ordinary
each_ordinary b zero h k real l = absurd (real (omega arith))
each_ordinary b (suc n) h k real l =
    let s = either_false (entry_at b (suc n)).exact (has_exact b n) h in
    let ih = each_ordinary b n s.1 k real in
    cases (eqb k (suc n))
    (λ e. let z = eqb-true k (suc n) e in rw (z, s.0))
    (λ e. let z = eqb-false k (suc n) e in ih (omega arith))

-- and so do the slots of a sound store, which its chain visits
pub all_ordinary : (b : List ℕ) (s : Sound b) → has_exact b (used b) ≡ false → every is_ordinary (entries b) ≡ true
unfolding every
all_ordinary b s h = ap (every is_ordinary) (entries_are b s) ∙ go s.chained s.each
  where
    go : (xs : List ℕ) → All (Slot b) xs → every is_ordinary (map (entry_at b) xs) ≡ true
    go [] a = refl
    go (x ∷ xs) a = rw (each_ordinary b (used b) h x a.0.real a.0.inside) (go xs a.1)
