-- Theorems about `specs/Accepted.antt`: An accepted second step: the spare is a sound store, and its count, which can rise, is the store's.
-- Assumes nothing.
use Rattle.std.specs.Prelude.{ℕ, ◌≡◌, ◌&&◌, List, eqb, length}
use Rattle.std.proofs.Common.{arith, eqb-true}
use Rattle.texts.specs.Choice.{cases, both_true}
use Rattle.store_spec.specs.Store.{is_sound, count, largest}
use Rattle.store_spec.proofs.Sound.{sound}
use Rattle.accept_entries.specs.AcceptEntries.{accept_entries}
use Rattle.accept_entries.specs.Accepted.{Fit}

pub accept_law : (store spare : List ℕ) → (accept_entries store spare).refusal ≡ 0 → Fit store spare
unfolding accept_entries
accept_law store spare h =
    cases (is_sound store && eqb (length spare) (length store) && is_sound spare)
    (λ t. cases (eqb (count spare) (count store))
    (λ q. cases (eqb (count store) largest)
    (λ r. absurd (omega (arith, (rw (t, q, r) at h))))
    (λ r. let z = (both_true (is_sound store && eqb (length spare) (length store)) (is_sound spare) t).1 in
    record { sound = sound spare z; seen = eqb-true (count spare) (count store) q; rises = r }))
    (λ q. absurd (omega (arith, (rw (t, q) at h)))))
    (λ t. absurd (omega (arith, (rw t at h))))
