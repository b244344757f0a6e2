-- The place just after the last element that passes: a list taken in from its front, where each element that passes moves the place behind itself.
-- Assumes nothing.
use Prim.Native.Nat.{ℕ, zero, suc, ◌-◌, ◌≤◌, ◌<◌}
use Rattle.std.proofs.Common.{arith, ap, ◌∙◌, subst, take-suc, ltb-true, ltb-false}
use Rattle.std.specs.Prelude.{◌≡◌, Bool, true, false, List, [], ◌∷◌, reverse, length, get_or, take, ltb}
use Rattle.std.proofs.Math.Path.{refl}
use Rattle.std.proofs.lemmas.List.{reverse-append}
use Rattle.std.proofs.Math.Seq.{length-take-le, take-length}
use Rattle.texts.specs.Choice.{cases}
use Rattle.texts.specs.Lists.{place, behind_last}

module _ {A : Type 0} (f : A → Bool) (l : List A) (d : A) where
  module _ (n : ℕ) (inside : n < length l) where
    last_of : reverse (take (suc n) l) ≡ get_or l n d ∷ reverse (take n l)
    last_of = ap (λ (s : List A). reverse s) (take-suc l n d inside) ∙ reverse-append (take n l) (get_or l n d ∷ [])

    -- one element more that passes
    pub behind_stop : f (get_or l n d) ≡ true → behind_last f (take (suc n) l) ≡ suc n
    unfolding behind_last
    behind_stop e =
        let p : place f (reverse (take (suc n) l)) ≡ 0 = unfold place in rw (last_of, e) in
        omega (arith, p, length-take-le (suc n) l inside)

    -- one element more that does not pass
    pub behind_turn : f (get_or l n d) ≡ false → behind_last f (take (suc n) l) ≡ behind_last f (take n l)
    unfolding behind_last
    behind_turn e =
        let p : place f (reverse (take (suc n) l)) ≡ suc (place f (reverse (take n l))) = unfold place in rw (last_of, e) in
        omega (arith, p, length-take-le (suc n) l inside, length-take-le n l (omega arith))

  -- none yet
  pub behind_none : behind_last f (take 0 l) ≡ 0
  unfolding behind_last place
  behind_none = refl

  -- among the first n elements none from the place on passes, and the one just before it does
  pub record Behind (n place : ℕ) : Type 0 where
    pub within : place ≤ n
    pub free : (k : ℕ) → place ≤ k → k < n → f (get_or l k d) ≡ false
    pub before : 0 < place → f (get_or l (place - 1) d) ≡ true

  pub behind_take : (n : ℕ) → n ≤ length l → Behind n (behind_last f (take n l))
  behind_take zero h =
      rw behind_none (record { within = omega arith; free = λ k a b. absurd (omega arith); before = λ a. absurd (omega arith) })
  behind_take (suc n) h =
      let ih = behind_take n (omega arith) in
      let w = ih.within in
      let m : suc n - 1 ≡ n = omega arith in
      cases (f (get_or l n d))
      (λ e. rw (behind_stop n h e) (record { within = omega arith; free = λ k a b. absurd (omega arith); before = λ a. rw m e }))
      (λ e. rw (behind_turn n h e) (record { within = omega arith; free = λ k a b. cases (ltb k n) (λ t. ih.free k a (ltb-true k n t)) (λ t. let same : k ≡ n = omega (arith, ltb-false k n t) in rw same e); before = ih.before }))

  pub behind_last_lem : Behind (length l) (behind_last f l)
  behind_last_lem = subst (λ (s : List A). Behind (length l) (behind_last f s)) (take-length l) (behind_take (length l) (omega arith))
