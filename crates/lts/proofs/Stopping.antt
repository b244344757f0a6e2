-- The loop that goes leftwards tells where it stopped: the place is that of the bytes left, by the last of them. Assumes nothing.
use Prim.Native.Nat.{ℕ, zero, suc, ◌+◌, ◌-◌, ◌≤◌, ◌<◌}
use native.Mathlib.Nat.{not-suc-le-zero}
use native.Mathlib.Omega.{arith}
use mathlib.Core.Path.{◌≡◌, sym, ap, ◌∙◌}
use mathlib.Core.Bool.{true, false}
use mathlib.Core.List.{List}
use lib.ListN.{length, get_or, take}
use lib.Seq.{take-length}
use Rattle.texts.specs.Lists.{behind_last}
use Rattle.texts.specs.Text.{is}
use Rattle.lts_spec.proofs.Laws.Last.{behind_none, behind_turn, behind_stop}
use Rattle.lts_spec.specs.Letters.{padded, stopped}
use Rattle.lts_spec.proofs.Stopped.{hash_at_lem}

-- the place, by the bytes left
abbrev pub Left : List ℕ → ℕ → Type 0
Left word left = stopped word ≡ behind_last (is 35) (take left word)

pub left_start : (word : List ℕ) → Left word (length word)
unfolding stopped
left_start word = ap (λ (s : List ℕ). behind_last (is 35) s) (sym (take-length word))

pub left_end : (word : List ℕ) (left : ℕ) → Left word left → left ≤ 0 → stopped word ≡ left
left_end word zero s h = s ∙ behind_none (is 35) word 0
left_end word (suc n) s h = absurd (not-suc-le-zero h)

-- the last byte left, as the loop reads it
read_at : (word : List ℕ) (n : ℕ) → n < length word → is 35 (get_or (padded word) (suc n + 3) 0) ≡ is 35 (get_or word n 0)
read_at word n h = let e : suc n + 3 ≡ n + 4 = omega arith in rw e (hash_at_lem word n h)

pub left_stop : (word : List ℕ) (left : ℕ) → Left word left → 0 < left → left ≤ length word → is 35 (get_or (padded word) (left + 3) 0) ≡ true → stopped word ≡ left
left_stop word zero s h l e = absurd (not-suc-le-zero h)
left_stop word (suc n) s h l e = s ∙ behind_stop (is 35) word 0 n l (sym (read_at word n l) ∙ e)

pub left_turn : (word : List ℕ) (left : ℕ) → Left word left → 0 < left → left ≤ length word → is 35 (get_or (padded word) (left + 3) 0) ≡ false → Left word (left - 1)
left_turn word zero s h l e = absurd (not-suc-le-zero h)
left_turn word (suc n) s h l e = let m : suc n - 1 ≡ n = omega arith in rw m (s ∙ behind_turn (is 35) word 0 n l (sym (read_at word n l) ∙ e))
