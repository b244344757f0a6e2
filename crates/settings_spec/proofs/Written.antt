-- 02, S-12: what a write leaves, for any four bytes put into the value of the record of a name: the chain is sound as before, the named setting
-- has these bytes, and every other setting's value is as it was.
-- Assumes nothing.
use Prim.Native.Nat.{ℕ, zero, suc, ◌+◌, ◌*◌, ◌/◌, ◌<◌}
use native.Mathlib.Omega.{arith}
use Rattle.std.specs.Prelude.{◌≡◌, ◌≢◌, true, eqb, length, take, drop}
use Rattle.std.proofs.Math.Path.{refl, sym, ap}
use Rattle.std.proofs.Common.{◌∙◌, get_or-take, ext_get_or, ne_eqb}
use mathlib.Core.List.{List, [], ◌∷◌, map}
use Rattle.std.proofs.Math.ListN.{get_or, length-take, length-drop}
use Rattle.std.proofs.Math.Seq.{get_or-drop}
use Rattle.texts.specs.Choice.{cases}
use Rattle.texts.specs.Text.{distinct}
use Rattle.records.specs.Fields.{u16_at, u32_at, put32, length_put32, byte_put32, u32_put_same}
use Rattle.records.specs.Chain.{All, chain}
use Rattle.values.specs.declared.Setting.{Setting}
use Rattle.values.specs.Values.{setting_of}
use Rattle.settings_spec.specs.Settings.{count, next, name_at, kind_at, value_at, is_record, walks, order, is_sound, named, record_of, value_of}
use Rattle.settings_spec.proofs.Sound.{sound, order_is, record_right, found_inside}

-- walks along links that agree
chain_same : (f g : ℕ → ℕ) → ((p : ℕ) → g p ≡ f p) → (n p : ℕ) → chain g n p ≡ chain f n p
unfolding chain
chain_same f g h zero p = refl
chain_same f g h (suc n) p = let ih = chain_same f g h n (f p) in rw (h p, ih)

module _ (b : List ℕ) (i v : ℕ) where
  new : List ℕ
  new = put32 b (value_at i) v

  same_length : length new ≡ length b
  unfolding new
  same_length = length_put32 b (value_at i) v

  -- a byte at one of the first 19 places of a record, and of the last 9
  byte_kept : (p o : ℕ) → o < 19 → get_or new (32 * p + o) 0 ≡ get_or b (32 * p + o) 0
  unfolding new
  byte_kept p o h = byte_put32 b (value_at i) v (32 * p + o) (omega arith) (omega arith) (omega arith) (omega arith)

  byte_apart : (p o : ℕ) → p ≢ i → o < 32 → get_or new (32 * p + o) 0 ≡ get_or b (32 * p + o) 0
  unfolding new
  byte_apart p o n h = byte_put32 b (value_at i) v (32 * p + o) (omega arith) (omega arith) (omega arith) (omega arith)

  next_kept : (p : ℕ) → next new p ≡ next b p
  unfolding next u16_at
  next_kept p =
      let z₀ : get_or new (32 * 0 + 2) 0 ≡ get_or b (32 * 0 + 2) 0 = byte_kept 0 2 (omega arith) in
      let z₁ : get_or new (32 * 0 + 3) 0 ≡ get_or b (32 * 0 + 3) 0 = byte_kept 0 3 (omega arith) in
      let e : 32 * p + 0 ≡ 32 * p = omega arith in
      let y₀ : get_or new (32 * p) 0 ≡ get_or b (32 * p) 0 = rw (← e) (byte_kept p 0 (omega arith)) in
      let y₁ = byte_kept p 1 (omega arith) in
      cases (eqb p 0) (λ t. rw t (omega (arith, z₀, z₁))) (λ t. rw t (omega (arith, y₀, y₁)))

  kind_kept : (p : ℕ) → kind_at new p ≡ kind_at b p
  kind_kept p = byte_kept p 18 (omega arith)

  record_kept : (p : ℕ) → is_record new p ≡ is_record b p
  unfolding is_record
  record_kept p = rw (same_length, byte_kept p 2 (omega arith), kind_kept p)

  name_kept : (p : ℕ) → is_record b p ≡ true → name_at new p ≡ name_at b p
  unfolding name_at
  name_kept p r =
      let short = (record_right b p r).short in
      let e = byte_kept p 2 (omega arith) in
      let n = get_or b (32 * p + 2) 0 in
      rw e (ext_get_or 0 (take n (drop (32 * p + 3) new)) (take n (drop (32 * p + 3) b))
      (simp (length-take, length-drop, same_length))
      (λ o l. let q : o < n = omega (arith, simp length-take at l) in
      let a : 32 * p + (3 + o) ≡ 32 * p + 3 + o = omega arith in
      let y : get_or new (32 * p + 3 + o) 0 ≡ get_or b (32 * p + 3 + o) 0 = rw (← a) (byte_kept p (3 + o) (omega arith)) in
      (get_or-take n (drop (32 * p + 3) new) o 0 q ∙ get_or-drop (32 * p + 3) new o 0) ∙ y
      ∙ sym (get_or-take n (drop (32 * p + 3) b) o 0 q ∙ get_or-drop (32 * p + 3) b o 0)))

  walks_kept : (n p : ℕ) → walks new n p ≡ walks b n p
  unfolding walks
  walks_kept zero p = rw (next_kept p)
  walks_kept (suc n) p = let ih = walks_kept n (next b p) in rw (next_kept p, record_kept (next b p), ih)

  order_kept : order new ≡ order b
  unfolding order
  order_kept = ap (λ (n : ℕ). chain (next new) (n / 32) 0) same_length ∙ chain_same (next b) (next new) next_kept (count b) 0

  names_kept : (is : List ℕ) → All (λ (j : ℕ). is_record b j ≡ true) is → map (name_at new) is ≡ map (name_at b) is
  names_kept [] a = refl
  names_kept (j ∷ js) a = let ih = names_kept js a.1 in rw (name_kept j a.0, ih)

  named_kept : (name is : List ℕ) → All (λ (j : ℕ). is_record b j ≡ true) is → named new name is ≡ named b name is
  unfolding named
  named_kept name [] a = refl
  named_kept name (j ∷ js) a = let ih = named_kept name js a.1 in rw (name_kept j a.0, ih)

  each_right : is_sound b ≡ true → All (λ (j : ℕ). is_record b j ≡ true) (order b)
  each_right h = let s = sound b h in rw (order_is b s) s.each

  -- the chain is sound as before
  sound_kept : is_sound b ≡ true → is_sound new ≡ true
  unfolding is_sound
  sound_kept h =
      let w : walks new (count new) 0 ≡ walks b (count b) 0 = ap (λ (n : ℕ). walks new (n / 32) 0) same_length ∙ walks_kept (count b) 0 in
      let d : distinct (map (name_at new) (order new)) ≡ distinct (map (name_at b) (order b)) =
      ap (λ (l : List ℕ). distinct (map (name_at new) l)) order_kept ∙ ap distinct (names_kept (order b) (each_right h)) in
      rw (w, d) h

  -- and each name has its record
  found_kept : (name : List ℕ) → is_sound b ≡ true → record_of new name ≡ record_of b name
  unfolding record_of
  found_kept name h = ap (named new name) order_kept ∙ named_kept name (order b) (each_right h)

-- the named setting has the four bytes
pub written_sound : (b name : List ℕ) (v : ℕ) → is_sound b ≡ true → is_sound (put32 b (value_at (record_of b name)) v) ≡ true
unfolding new
written_sound b name v h = sound_kept b (record_of b name) v h

pub written_here : (b name : List ℕ) (v : ℕ) (missing : Setting) → is_sound b ≡ true → record_of b name ≢ 0 → v < 4294967296
    → value_of (put32 b (value_at (record_of b name)) v) name missing ≡ setting_of (kind_at b (record_of b name)) v
unfolding value_of new
written_here b name v missing h n small =
    let i = record_of b name in
    let inside = found_inside b name h n in
    let f = found_kept b i v name h in
    let k = kind_kept b i v i in
    let u = u32_put_same b (value_at i) v (omega arith) small in
    rw (f, ne_eqb i 0 n, k, u)

-- and every other is as it was
pub written_other : (b name other : List ℕ) (v : ℕ) (missing : Setting) → is_sound b ≡ true → record_of b other ≢ record_of b name
    → value_of (put32 b (value_at (record_of b name)) v) other missing ≡ value_of b other missing
unfolding value_of new u32_at u16_at
written_other b name other v missing h n =
    let i = record_of b name in
    let j = record_of b other in
    let f = found_kept b i v other h in
    let k = kind_kept b i v j in
    let x₀ = byte_apart b i v j 19 n (omega arith) in
    let e₁ : 32 * j + 20 ≡ 32 * j + 19 + 1 = omega arith in
    let e₂ : 32 * j + 21 ≡ 32 * j + 19 + 2 = omega arith in
    let e₃ : 32 * j + 22 ≡ 32 * j + 19 + 2 + 1 = omega arith in
    let x₁ : get_or (new b i v) (32 * j + 19 + 1) 0 ≡ get_or b (32 * j + 19 + 1) 0 = rw (← e₁) (byte_apart b i v j 20 n (omega arith)) in
    let x₂ : get_or (new b i v) (32 * j + 19 + 2) 0 ≡ get_or b (32 * j + 19 + 2) 0 = rw (← e₂) (byte_apart b i v j 21 n (omega arith)) in
    let x₃ : get_or (new b i v) (32 * j + 19 + 2 + 1) 0 ≡ get_or b (32 * j + 19 + 2 + 1) 0 = rw (← e₃) (byte_apart b i v j 22 n (omega arith)) in
    rw (f, k, x₀, x₁, x₂, x₃)
