-- Choosing by a test, and arguing by its outcome.
-- Assumes nothing.
use Rattle.std.specs.Prelude.{ℕ, ◌≡◌, refl, Bool, true, false, ◌&&◌, cond}
use Rattle.std.proofs.Common.{arith, sym, ap, ◌∙◌}

infixr 2 when◌then◌else◌
abbrev pub when◌then◌else◌ {ℓ} : {A : Type ℓ} → Bool → A → A → A
when true then a else b = a
when false then a else b = b

-- a test as a number
abbrev pub bit : Bool → ℕ
bit true = 1
bit false = 0

-- a test has two outcomes
pub cases : {C : Type 0} (b : Bool) → (b ≡ true → C) → (b ≡ false → C) → C
cases true t f = t refl
cases false t f = f refl

-- and never both
pub never : {C : Type 0} (b : Bool) → b ≡ true → b ≡ false → C
never b p q = let z : ◌≡◌ {A = ℕ} 0 1 = ap (λ (x : Bool). cond x 0 1) (sym p ∙ q) in absurd (omega arith)

pub is_false : (b : Bool) → (b ≡ true → ⊥) → b ≡ false
is_false true h = absurd (h refl)
is_false false h = refl

pub both_true : (a b : Bool) → (a && b) ≡ true → (a ≡ true) × (b ≡ true)
both_true true b h = (refl, h)
both_true false b h = let z : false ≡ true = h in never false z refl
