-- A slot written from its front on, step by step, is the slot of its entry. Assumes nothing.
use Prim.Native.Nat.{ℕ, ◌+◌, ◌-◌, ◌*◌, ◌%◌, ◌/◌, ◌≤◌}
use native.Mathlib.Omega.{arith}
use mathlib.Core.Path.{◌≡◌, refl, sym, ap, ◌∙◌}
use mathlib.Core.List.{List, [], ◌∷◌, ◌++◌}
use lib.ListN.{length, take, set, replicate, length-set, length-replicate}
use lib.Seq.{paste, take_all}
use Rattle.records.specs.Fields.{put16}
use Rattle.records.specs.Records.{front_byte, front_part, front_u16}

module _ (b₀ b₁ b₂ b₃ b₄ b₅ b₆ w cs : List ℕ) (tag n count flag : ℕ)
    (l₀ : length b₀ ≡ 512) (l₁ : length b₁ ≡ 512) (l₂ : length b₂ ≡ 512) (l₃ : length b₃ ≡ 512)
    (l₄ : length b₄ ≡ 512) (l₅ : length b₅ ≡ 512) (l₆ : length b₆ ≡ 512)
    (lw : length w ≡ n) (hn : n ≤ 47) (lc : length cs ≡ 16 * count) (hc : count ≤ 24)
    (e₁ : b₁ ≡ put16 b₀ 0 0)
    (e₂ : b₂ ≡ paste (set (set b₁ 2 tag) 3 n) 4 w n)
    (e₃ : b₃ ≡ paste b₂ (4 + n) (replicate (47 - n) 0) (47 - n))
    (e₄ : b₄ ≡ paste (set (set b₃ 51 count) 52 flag) 53 (replicate 11 0) 11)
    (e₅ : b₅ ≡ paste b₄ 64 cs (16 * count))
    (e₆ : b₆ ≡ paste b₅ (64 + 16 * count) (replicate (448 - 16 * count) 0) (448 - 16 * count)) where
  key : List ℕ
  key = (0 % 256 ∷ 0 / 256 ∷ []) ++ (tag ∷ []) ++ (n ∷ []) ++ w

  front4 : take (4 + n) b₂ ≡ key
  unfolding key
  front4 =
      let f₁ = ap (λ (b : List ℕ). take 2 b) e₁ ∙ front_u16 b₀ 0 (omega arith) in
      let f₂ = front_byte b₁ (0 % 256 ∷ 0 / 256 ∷ []) 2 tag (omega arith) f₁ in
      let f₃ = front_byte (set b₁ 2 tag) ((0 % 256 ∷ 0 / 256 ∷ []) ++ (tag ∷ [])) 3 n (simp length-set (omega arith)) f₂ in
      ap (λ (b : List ℕ). take (4 + n) b) e₂
      ∙ front_part (set (set b₁ 2 tag) 3 n) ((0 % 256 ∷ 0 / 256 ∷ []) ++ (tag ∷ []) ++ (n ∷ [])) w 4 n (simp length-set (omega arith)) lw f₃

  front51 : take 51 b₃ ≡ key ++ replicate (47 - n) 0
  front51 =
      let e : 4 + n + (47 - n) ≡ 51 = omega arith in
      ap (λ (m : ℕ). take m b₃) (sym e) ∙ ap (λ (b : List ℕ). take (4 + n + (47 - n)) b) e₃
      ∙ front_part b₂ key (replicate (47 - n) 0) (4 + n) (47 - n) (omega arith) (length-replicate (47 - n) 0) front4

  front64 : take 64 b₄ ≡ key ++ replicate (47 - n) 0 ++ (count ∷ []) ++ (flag ∷ []) ++ replicate 11 0
  front64 =
      let f = front_byte b₃ (key ++ replicate (47 - n) 0) 51 count (omega arith) front51 in
      let g = front_byte (set b₃ 51 count) (key ++ replicate (47 - n) 0 ++ (count ∷ [])) 52 flag (simp length-set (omega arith)) f in
      ap (λ (b : List ℕ). take 64 b) e₄
      ∙ front_part (set (set b₃ 51 count) 52 flag) (key ++ replicate (47 - n) 0 ++ (count ∷ []) ++ (flag ∷ [])) (replicate 11 0) 53 11 (simp length-set (omega arith)) refl g

  pub slot_written : b₆ ≡ (0 % 256 ∷ 0 / 256 ∷ []) ++ (tag ∷ []) ++ (n ∷ []) ++ w ++ replicate (47 - n) 0
      ++ (count ∷ []) ++ (flag ∷ []) ++ replicate 11 0 ++ cs ++ replicate (448 - 16 * count) 0
  unfolding key
  slot_written =
      let p = key ++ replicate (47 - n) 0 ++ (count ∷ []) ++ (flag ∷ []) ++ replicate 11 0 in
      let f = ap (λ (b : List ℕ). take (64 + 16 * count) b) e₅ ∙ front_part b₄ p cs 64 (16 * count) (omega arith) lc front64 in
      let e : 64 + 16 * count + (448 - 16 * count) ≡ 512 = omega arith in
      sym (take_all 512 b₆ (omega arith)) ∙ ap (λ (m : ℕ). take m b₆) (sym e) ∙ ap (λ (b : List ℕ). take (64 + 16 * count + (448 - 16 * count)) b) e₆
      ∙ front_part b₅ (p ++ cs) (replicate (448 - 16 * count) 0) (64 + 16 * count) (448 - 16 * count) (omega arith) (length-replicate (448 - 16 * count) 0) f
