-- 01, Phones: `split_stress` takes off one last byte that is a stress; the rest is the bare phone. Which bytes are stresses is the sheet's
-- version's to say (02, S-9): `digits` in crates/versions.
-- Assumes nothing.
use Rattle.std.specs.Prelude.{ℕ, ◌+◌, ◌-◌, ◌≤◌, ◌≡◌, refl, Bool, true, false, List, [], ◌∷◌, ◌++◌, eqb, length, get_or, take}
use Rattle.std.proofs.Common.{arith, sym, ◌∙◌, length-append, length-take-le, get_or-append-add}
use Rattle.std.proofs.Math.ListN.{get_or-eq_default}
use Rattle.std.proofs.Math.Seq.{take-length}
use Rattle.texts.specs.Choice.{when◌then◌else◌, cases}
use Rattle.texts.specs.Lists.{some}
use Rattle.versions.specs.Versions.{digits, is_stress}
use Rattle.versions.proofs.Laws.Stresses.{no_stress_lem}

-- the last byte, 0 where there is none
unfoldable pub last_byte : List ℕ → ℕ
last_byte x = get_or x (length x - 1) 0

unfoldable pub is_stressed : List ℕ → List ℕ → Bool
is_stressed ds x = some (eqb (last_byte x)) ds

-- the stress of a phone, 0 where it has none
unfoldable pub stress : List ℕ → List ℕ → ℕ
stress ds x = when is_stressed ds x then last_byte x else 0

-- the bare phone
unfoldable pub bare : List ℕ → List ℕ → List ℕ
bare ds x = when is_stressed ds x then take (length x - 1) x else x

-- a phone parted before its last byte
pub last_of : (x front : List ℕ) (b : ℕ) → x ≡ front ++ b ∷ [] → last_byte x ≡ b
unfolding last_byte
last_of x front b e =
    let n : length (front ++ b ∷ []) - 1 ≡ length front + 0 = rw length-append (omega arith) in
    rw (e, n) (get_or-append-add front (b ∷ []) 0 0)

-- the bare phone is the front of the phone
pub bare_front : (ds x : List ℕ) → bare ds x ≡ take (length (bare ds x)) x
unfolding bare
bare_front ds x =
    cases (is_stressed ds x)
    (λ e. let l : length x - 1 ≤ length x = omega arith in rw (e, length-take-le (length x - 1) x l))
    (λ e. rw (e, take-length x))

pub bare_short : (ds x : List ℕ) → length (bare ds x) ≤ length x
unfolding bare
bare_short ds x =
    cases (is_stressed ds x)
    (λ e. let l : length x - 1 ≤ length x = omega arith in rw (e, length-take-le (length x - 1) x l) (omega arith))
    (λ e. rw e (omega arith))

-- both parts, by the test
pub stress_taken : (ds x : List ℕ) → is_stressed ds x ≡ true → (length x - 1 ≡ length (bare ds x)) × (last_byte x ≡ stress ds x)
unfolding bare stress
stress_taken ds x e =
    let l : length x - 1 ≤ length x = omega arith in
    (rw e (sym (length-take-le (length x - 1) x l)), rw e)

pub stress_left : (ds x : List ℕ) → is_stressed ds x ≡ false → (length x ≡ length (bare ds x)) × (0 ≡ stress ds x)
unfolding bare stress
stress_left ds x e = (rw e, rw e)

-- a phone is stressed if its last byte is a stress in the version; one without bytes never is
pub stressed_by : (v : ℕ) (x : List ℕ) → is_stressed (digits v) x ≡ is_stress v (last_byte x)
unfolding is_stressed is_stress
stressed_by v x = refl

pub empty_unstressed : (v : ℕ) (x : List ℕ) → length x ≡ 0 → is_stressed (digits v) x ≡ false
unfolding last_byte
empty_unstressed v x e =
    let z : last_byte x ≡ 0 = get_or-eq_default x 0 (omega arith) in
    stressed_by v x ∙ rw z (no_stress_lem v 0 (omega arith) (omega arith) (omega arith))
