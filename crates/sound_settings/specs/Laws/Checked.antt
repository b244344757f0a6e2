-- What a check of the store tells a call.
-- Assumes nothing.
use Rattle.std.specs.Prelude.{ℕ, ◌≡◌, true, false, ◌&&◌, List, eqb, length}
use Rattle.std.proofs.Common.{arith, sym, ap, ◌∙◌}
use Rattle.texts.specs.Choice.{cases}
use Rattle.records.specs.Fields.{u16_at}
use Rattle.answers.specs.declared.Answer.{Answer}
use Rattle.answers.specs.declared.Refusal.{Refusal}
use Rattle.answers.specs.Told.{refusal_number, refused, accepted}
use Rattle.answers.specs.Laws.Numbers.{not_zero}
use Rattle.settings_spec.specs.Settings.{is_length, is_version, is_sound, store_refusal}

pub number_of : (m n : ℕ) → refused m 0 ≡ refused n 0 → m ≡ n
number_of m n h = ap (λ (a : Answer). a.refusal) h

pub refused_test : (r : Refusal) (n : ℕ) → refused (refusal_number r) 0 ≡ refused n 0 → eqb n 0 ≡ false
refused_test r n h = ap (λ (m : ℕ). eqb m 0) (sym (number_of (refusal_number r) n h)) ∙ not_zero r

pub none_refused : (v : ℕ) (b : List ℕ) → accepted 0 0 ≡ refused (store_refusal v b) 0 → store_refusal v b ≡ 0
none_refused v b h = sym (number_of 0 (store_refusal v b) h)

pub sound_checked : (v : ℕ) (b : List ℕ) → store_refusal v b ≡ 0 → is_sound b ≡ true
unfolding store_refusal
sound_checked v b h =
    cases (is_length (length b))
    (λ l.
    cases (is_version v && is_version (u16_at b 0))
    (λ w. cases (is_sound b) (λ s. s) (λ s. let z : ◌≡◌ {A = ℕ} 16 0 = rw (l, w, s) at h in absurd (omega arith)))
    (λ w. let z : ◌≡◌ {A = ℕ} 15 0 = rw (l, w) at h in absurd (omega arith)))
    (λ l. let z : ◌≡◌ {A = ℕ} 2 0 = rw l at h in absurd (omega arith))
