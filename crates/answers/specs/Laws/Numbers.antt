-- No refusal has the number 0.
-- Assumes nothing.
use Rattle.std.specs.Prelude.{ℕ, ◌≡◌, refl, false, eqb}
use Rattle.std.proofs.Common.{arith, ap, eq-eqb}
use Rattle.answers.specs.declared.Answer.{Answer}
use Rattle.answers.specs.declared.Refusal.{Refusal}
use Rattle.answers.specs.declared.Refusal.TheVariants.{Section, Unsound, Text, Line, UnknownPhone, Damaged, Phones, Full, Short, Count, Version, Records, Range}
use Rattle.answers.specs.Told.{refusal_number, refused, accepted}

pub not_zero : (r : Refusal) → eqb (refusal_number r) 0 ≡ false
not_zero Section = refl
not_zero Unsound = refl
not_zero Text = refl
not_zero Line = refl
not_zero UnknownPhone = refl
not_zero Damaged = refl
not_zero Phones = refl
not_zero Full = refl
not_zero Short = refl
not_zero Count = refl
not_zero Version = refl
not_zero Records = refl
not_zero Range = refl

pub refused_never : {C : Type 0} (r : Refusal) → refusal_number r ≡ 0 → C
refused_never r h =
    let e = eq-eqb (refusal_number r) 0 h in
    let n = not_zero r in
    let z : ◌≡◌ {A = ℕ} 0 1 = cc in
    absurd (omega arith)

-- an answer is not both a refusal and accepted
pub never_accepted : {C : Type 0} (r : Refusal) (line kind value : ℕ) → refused (refusal_number r) line ≡ accepted kind value → C
never_accepted r line kind value e = refused_never r (ap (λ (a : Answer). a.refusal) e)
