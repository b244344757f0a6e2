-- What a search along the chain comes to.
-- Assumes nothing.
use Rattle.std.specs.Prelude.{ℕ, zero, suc, ◌≤◌, ◌≡◌, refl, Bool, true, false, List, [], ◌∷◌, ◌++◌, map, length}
use Rattle.std.proofs.Common.{not-suc-le-zero, le_of_suc-le-suc, ap, eq-eqb, ne_eqb}
use Rattle.texts.specs.Choice.{cases}
use Rattle.texts.specs.Lists.{some}
use Rattle.records.specs.Chain.{Linked, end_of}
use Rattle.slots_spec.specs.Slot.{Entry}
use Rattle.store_spec.specs.Store.{next, entry_at}
use Rattle.store_spec.specs.Adding.{seek}

-- what a search comes to: the end, or a slot with the first wanted entry behind the one it tells
pub data Sought (b : List ℕ) (wanted : Entry → Bool) (p at : ℕ) (xs : List ℕ) : Type 0 where
  none : some wanted (map (entry_at b) xs) ≡ false → at ≡ end_of p xs → next b at ≡ 0 → Sought b wanted p at xs
  found : (ys zs : List ℕ) (s : ℕ) → xs ≡ ys ++ s ∷ zs → at ≡ end_of p ys → next b at ≡ s → some wanted (map (entry_at b) ys) ≡ false → wanted (entry_at b s) ≡ true → Sought b wanted p at xs

pub sought : (b : List ℕ) (wanted : Entry → Bool) (n p : ℕ) (xs : List ℕ) → Linked (next b) p xs → length xs ≤ n → Sought b wanted p (seek b wanted n p) xs
unfolding seek some end_of
sought b wanted zero p [] h l = none refl refl h
sought b wanted (suc n) p [] h l = rw (eq-eqb (next b p) 0 h) (none refl refl h)
sought b wanted zero p (x ∷ xs) h l = absurd (not-suc-le-zero l)
sought b wanted (suc n) p (x ∷ xs) h l =
    let ih = sought b wanted n x xs h.2 (le_of_suc-le-suc l) in
    cases (wanted (entry_at b x))
    (λ e. rw (h.0, ne_eqb x 0 h.1, e) (found [] xs x refl refl h.0 refl e))
    (λ e. rw (h.0, ne_eqb x 0 h.1, e) (more e ih))
  where
    more : wanted (entry_at b x) ≡ false → Sought b wanted x (seek b wanted n x) xs → Sought b wanted p (seek b wanted n x) (x ∷ xs)
    more e (none a i z) = none (rw (e, a)) i z
    more e (found ys zs s a i z o w) = found (x ∷ ys) zs s (ap (λ (l : List ℕ). x ∷ l) a) i z (rw (e, o)) w
