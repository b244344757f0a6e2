-- Where check lexicon says yes, a compiled answer is the first equal word with the exact tag, else the first equal word.
-- Assumes nothing.
use Rattle.std.specs.Prelude.{ℕ, ◌≡◌, true, List}
use Rattle.std.proofs.Common.{arith, ap}
use Rattle.texts.specs.Choice.{cases}
use Rattle.answers.specs.declared.Answer.{Answer}
use Rattle.answers.specs.Told.{accepted}
use Rattle.compiled_spec.specs.Lexicon.{is_lexicon, is_checked}
use Rattle.compiled_spec.specs.Search.{chosen}
use Rattle.compiled_spec.specs.Checked.{first}
use Rattle.compiled_spec.proofs.Checked.{checked_first}
use Rattle.check_lexicon.specs.CheckLexicon.{check_lexicon}

-- a lexicon that check lexicon says yes to is checked
pub yes_checked : (phones index dat : List ℕ) → check_lexicon phones index dat ≡ accepted 1 0 → is_checked phones index dat ≡ true
unfolding check_lexicon
yes_checked phones index dat h =
    cases (is_lexicon phones index)
    (λ l. cases (is_checked phones index dat)
    (λ c. c)
    (λ c. let k = ap (λ (a : Answer). a.kind) h in let z : ◌≡◌ {A = ℕ} 0 1 = rw (l, c) at k in absurd (omega arith)))
    (λ l. let k = ap (λ (a : Answer). a.refusal) h in let z : ◌≡◌ {A = ℕ} 1 0 = rw l at k in absurd (omega arith))

pub yes_first : (phones index dat : List ℕ) → check_lexicon phones index dat ≡ accepted 1 0
    → (word : List ℕ) (tag : ℕ) → chosen index dat word tag ≡ first index dat word tag
yes_first phones index dat told word tag = checked_first phones index dat (yes_checked phones index dat told) word tag
