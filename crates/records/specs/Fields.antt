-- Little-endian fields in a list of bytes; a byte past the end is 0.
-- Assumes nothing.
use Rattle.std.specs.Prelude.{ℕ, ◌+◌, ◌*◌, ◌%◌, ◌/◌, ◌<◌, ◌≤◌, ◌≡◌, ◌≢◌, List, length, get_or, drop, set}
use Rattle.std.proofs.Common.{arith, ◌∙◌, length-set, get_or-drop, get_or-set_same, get_or-set_other}
use Rattle.std.proofs.Math.ListN.{get_or-eq_default}

-- the u16 at k
unfoldable pub u16_at : List ℕ → ℕ → ℕ
u16_at b k = get_or b k 0 + 256 * get_or b (k + 1) 0

-- the u32 at k
unfoldable pub u32_at : List ℕ → ℕ → ℕ
u32_at b k = u16_at b k + 65536 * u16_at b (k + 2)

-- the u64 at k
unfoldable pub u64_at : List ℕ → ℕ → ℕ
u64_at b k = u32_at b k + 4294967296 * u32_at b (k + 4)

-- v at k, as a u16
unfoldable pub put16 : List ℕ → ℕ → ℕ → List ℕ
put16 b k v = set (set b k (v % 256)) (k + 1) (v / 256)

-- v at k, as a u32
unfoldable pub put32 : List ℕ → ℕ → ℕ → List ℕ
put32 b k v = put16 (put16 b k (v % 65536)) (k + 2) (v / 65536)

-- v at k, as a u64
unfoldable pub put64 : List ℕ → ℕ → ℕ → List ℕ
put64 b k v = put32 (put32 b k (v % 4294967296)) (k + 4) (v / 4294967296)

pub length_put16 : (b : List ℕ) (k v : ℕ) → length (put16 b k v) ≡ length b
unfolding put16
length_put16 b k v = simp length-set

-- a u16 that was put is read back
pub u16_put_same : (b : List ℕ) (k v : ℕ) → k + 1 < length b → v < 65536 → u16_at (put16 b k v) k ≡ v
unfolding u16_at put16
u16_put_same b k v h small =
    omega (
      arith,
      get_or-set_other (set b k (v % 256)) (k + 1) k (v / 256) 0 (omega arith),
      get_or-set_same b k (v % 256) 0 (omega arith),
      get_or-set_same (set b k (v % 256)) (k + 1) (v / 256) 0 (simp length-set h),
    )

-- and one that does not overlap it is as it was
pub u16_put_other : (b : List ℕ) (k j v : ℕ) → k ≢ j → k ≢ j + 1 → j ≢ k + 1 → u16_at (put16 b k v) j ≡ u16_at b j
unfolding u16_at put16
u16_put_other b k j v n₁ n₂ n₃ =
    omega (
      arith,
      get_or-set_other (set b k (v % 256)) (k + 1) j (v / 256) 0 (omega arith),
      get_or-set_other b k j (v % 256) 0 (omega arith),
      get_or-set_other (set b k (v % 256)) (k + 1) (j + 1) (v / 256) 0 (omega arith),
      get_or-set_other b k (j + 1) (v % 256) 0 (omega arith),
    )

-- past the end there are zeros
pub u16_past : (b : List ℕ) (k : ℕ) → length b ≤ k → u16_at b k ≡ 0
unfolding u16_at
u16_past b k h = let g : length b ≤ k + 1 = omega arith in omega (arith, get_or-eq_default b 0 h, get_or-eq_default b 0 g)

-- and where only the low byte is inside
pub u16_last : (b : List ℕ) (k : ℕ) → length b ≤ k + 1 → u16_at b k ≡ get_or b k 0
unfolding u16_at
u16_last b k h = omega (arith, get_or-eq_default b 0 h)

pub u32_past : (b : List ℕ) (k : ℕ) → length b ≤ k → u32_at b k ≡ 0
unfolding u32_at
u32_past b k h = omega (arith, u16_past b k h, u16_past b (k + 2) (omega arith))

-- a u16 behind bytes that are dropped
pub u16_drop : (n : ℕ) (b : List ℕ) (k : ℕ) → u16_at (drop n b) k ≡ u16_at b (n + k)
unfolding u16_at
u16_drop n b k =
    let e : n + (k + 1) ≡ n + k + 1 = omega arith in
    rw (get_or-drop n b k 0, get_or-drop n b (k + 1) 0, e)

-- a u32 that was put is read back, and every byte but its four is as it was
pub length_put32 : (b : List ℕ) (k v : ℕ) → length (put32 b k v) ≡ length b
unfolding put32
length_put32 b k v = length_put16 (put16 b k (v % 65536)) (k + 2) (v / 65536) ∙ length_put16 b k (v % 65536)

pub byte_put32 : (b : List ℕ) (k v j : ℕ) → j ≢ k → j ≢ k + 1 → j ≢ k + 2 → j ≢ k + 3 → get_or (put32 b k v) j 0 ≡ get_or b j 0
unfolding put32 put16
byte_put32 b k v j n₀ n₁ n₂ n₃ =
    let b₁ = set b k (v % 65536 % 256) in
    let b₂ = set b₁ (k + 1) (v % 65536 / 256) in
    let b₃ = set b₂ (k + 2) (v / 65536 % 256) in
    get_or-set_other b₃ (k + 2 + 1) j (v / 65536 / 256) 0 (omega arith)
    ∙ get_or-set_other b₂ (k + 2) j (v / 65536 % 256) 0 (omega arith)
    ∙ get_or-set_other b₁ (k + 1) j (v % 65536 / 256) 0 (omega arith)
    ∙ get_or-set_other b k j (v % 65536 % 256) 0 (omega arith)

pub u32_put_same : (b : List ℕ) (k v : ℕ) → k + 3 < length b → v < 4294967296 → u32_at (put32 b k v) k ≡ v
unfolding u32_at put32
u32_put_same b k v h small =
    let b₁ = put16 b k (v % 65536) in
    let l = length_put16 b k (v % 65536) in
    let low : u16_at (put16 b₁ (k + 2) (v / 65536)) k ≡ v % 65536 =
    u16_put_other b₁ (k + 2) k (v / 65536) (omega arith) (omega arith) (omega arith) ∙ u16_put_same b k (v % 65536) (omega arith) (omega arith) in
    let high : u16_at (put16 b₁ (k + 2) (v / 65536)) (k + 2) ≡ v / 65536 = u16_put_same b₁ (k + 2) (v / 65536) (omega arith) (omega arith) in
    omega (arith, low, high)
