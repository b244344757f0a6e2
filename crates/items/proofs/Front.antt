-- An item written from its front on, step by step, is the item of its fields. Assumes nothing.
use Prim.Native.Nat.{ℕ, ◌+◌, ◌-◌, ◌%◌, ◌/◌, ◌≤◌, ◌<◌}
use native.Mathlib.Omega.{arith}
use mathlib.Core.Path.{◌≡◌, refl, sym, ap, ◌∙◌}
use mathlib.Core.List.{List, [], ◌∷◌, ◌++◌}
use lib.ListN.{length, take, set, replicate, length-set, length-replicate}
use lib.Seq.{paste, take_all, length-paste}
use Rattle.records.specs.Fields.{put16}
use Rattle.records.specs.Records.{front_byte, front_part}
use Rattle.items_spec.specs.Item.{Item, item, two}

-- the first k bytes of an item are p
record Front (b p : List ℕ) (k : ℕ) : Type 0 where
  pub long : length b ≡ 64
  pub front : take k b ≡ p

-- a byte more, a number more, and a part more
byte_more : {b p : List ℕ} {k : ℕ} (v : ℕ) → Front b p k → k < 64 → Front (set b k v) (p ++ (v ∷ [])) (k + 1)
byte_more {b} {p} {k} v f h =
    let l = f.long in
    record { long = simp length-set l; front = front_byte b p k v (omega arith) f.front }

number_more : {b c p : List ℕ} {k : ℕ} (v : ℕ) → Front b p k → c ≡ put16 b k v → k + 1 < 64 → Front c (p ++ (v % 256 ∷ []) ++ (v / 256 ∷ [])) (k + 1 + 1)
unfolding put16
number_more {b} {c} {p} {k} v f e h = rw e (byte_more (v / 256) (byte_more (v % 256) f (omega arith)) h)

part_more : {b c p : List ℕ} {k : ℕ} (s : List ℕ) (n : ℕ) → Front b p k → c ≡ paste b k s n → length s ≡ n → k + n ≤ 64 → Front c (p ++ s) (k + n)
part_more {b} {c} {p} {k} s n f e l h =
    let m = f.long in
    let hb : k + n ≤ length b = omega arith in
    rw e (record { long = length-paste b k s n hb (omega arith) ∙ m; front = front_part b p s k n hb l f.front })

module _ (b₀ b₁ b₂ b₃ b₄ b₅ b₆ b₇ b₈ : List ℕ) (i : Item) (l : length b₀ ≡ 64) (h : length i.text ≤ 47)
    (e₁ : b₁ ≡ put16 (set (set b₀ 0 i.kind) 1 i.stress) 2 i.next)
    (e₂ : b₂ ≡ put16 b₁ 4 i.first)
    (e₃ : b₃ ≡ put16 b₂ 6 i.last)
    (e₄ : b₄ ≡ put16 b₃ 8 i.parent)
    (e₅ : b₅ ≡ put16 b₄ 10 i.prev)
    (e₆ : b₆ ≡ put16 b₅ 12 i.follow)
    (e₇ : b₇ ≡ paste (set (set (set b₆ 14 i.mark) 15 i.source) 16 (length i.text)) 17 i.text (length i.text))
    (e₈ : b₈ ≡ paste b₇ (17 + length i.text) (replicate (47 - length i.text) 0) (47 - length i.text)) where
  -- the bytes before the text
  numbers : List ℕ
  numbers = i.kind ∷ i.stress ∷ two i.next (two i.first (two i.last (two i.parent (two i.prev (two i.follow [])))))

  front14 : Front b₆ numbers 14
  unfolding numbers
  front14 =
      let f₀ : Front b₀ [] 0 = record { long = l; front = refl } in
      let f₁ = byte_more i.stress (byte_more i.kind f₀ (omega arith)) (omega arith) in
      let f₂ = number_more i.first (number_more i.next f₁ e₁ (omega arith)) e₂ (omega arith) in
      let f₄ = number_more i.parent (number_more i.last f₂ e₃ (omega arith)) e₄ (omega arith) in
      number_more i.follow (number_more i.prev f₄ e₅ (omega arith)) e₆ (omega arith)

  front17 : Front b₇ (numbers ++ (i.mark ∷ i.source ∷ length i.text ∷ []) ++ i.text) (17 + length i.text)
  unfolding numbers
  front17 =
      let f = byte_more (length i.text) (byte_more i.source (byte_more i.mark front14 (omega arith)) (omega arith)) (omega arith) in
      part_more i.text (length i.text) f e₇ refl (omega arith)

  pub item_written : b₈ ≡ item i
  unfolding item numbers
  item_written =
      let n : ℕ = 47 - length i.text in
      let f = part_more (replicate n 0) n front17 e₈ (length-replicate n 0) (omega arith) in
      let e : 17 + length i.text + n ≡ 64 = omega arith in
      sym (take_all 64 b₈ (omega (arith, f.long))) ∙ ap (λ (m : ℕ). take m b₈) (sym e) ∙ f.front
