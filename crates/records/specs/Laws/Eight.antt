-- A u64 put into bytes is read back, and every byte but its eight is as it was.
-- Assumes nothing.
use Rattle.std.specs.Prelude.{ℕ, ◌+◌, ◌%◌, ◌/◌, ◌<◌, ◌≤◌, ◌≡◌, ◌⊎◌, List, length, get_or}
use Rattle.std.proofs.Common.{arith, ◌∙◌, inl, inr}
use Rattle.records.specs.Fields.{u16_at, u32_at, u64_at, put32, put64, length_put32, byte_put32, u32_put_same}

pub length_put64 : (b : List ℕ) (k v : ℕ) → length (put64 b k v) ≡ length b
unfolding put64
length_put64 b k v = length_put32 (put32 b k (v % 4294967296)) (k + 4) (v / 4294967296) ∙ length_put32 b k (v % 4294967296)

-- a byte before the eight or behind them
pub byte_put64 : (b : List ℕ) (k v j : ℕ) → (j < k) ⊎ (k + 8 ≤ j) → get_or (put64 b k v) j 0 ≡ get_or b j 0
unfolding put64
byte_put64 b k v j (inl h) =
    byte_put32 (put32 b k (v % 4294967296)) (k + 4) (v / 4294967296) j (omega arith) (omega arith) (omega arith) (omega arith)
    ∙ byte_put32 b k (v % 4294967296) j (omega arith) (omega arith) (omega arith) (omega arith)
byte_put64 b k v j (inr h) =
    byte_put32 (put32 b k (v % 4294967296)) (k + 4) (v / 4294967296) j (omega arith) (omega arith) (omega arith) (omega arith)
    ∙ byte_put32 b k (v % 4294967296) j (omega arith) (omega arith) (omega arith) (omega arith)

-- a u16 before them or behind them
pub u16_put64 : (b : List ℕ) (k v j : ℕ) → (j + 1 < k) ⊎ (k + 8 ≤ j) → u16_at (put64 b k v) j ≡ u16_at b j
unfolding u16_at
u16_put64 b k v j (inl h) = omega (arith, byte_put64 b k v j (inl (omega arith)), byte_put64 b k v (j + 1) (inl (omega arith)))
u16_put64 b k v j (inr h) = omega (arith, byte_put64 b k v j (inr (omega arith)), byte_put64 b k v (j + 1) (inr (omega arith)))

-- the u32 before one that is put
low_kept : (b : List ℕ) (k v : ℕ) → u32_at (put32 b (k + 4) v) k ≡ u32_at b k
unfolding u32_at u16_at
low_kept b k v =
    let s : (j : ℕ) → j < k + 4 → get_or (put32 b (k + 4) v) j 0 ≡ get_or b j 0 =
    λ j h. byte_put32 b (k + 4) v j (omega arith) (omega arith) (omega arith) (omega arith) in
    omega (arith, s k (omega arith), s (k + 1) (omega arith), s (k + 2) (omega arith), s (k + 2 + 1) (omega arith))

pub u64_put_same : (b : List ℕ) (k v : ℕ) → k + 7 < length b → v < 18446744073709551616 → u64_at (put64 b k v) k ≡ v
unfolding u64_at put64
u64_put_same b k v h small =
    let b₁ = put32 b k (v % 4294967296) in
    let l = length_put32 b k (v % 4294967296) in
    let low = low_kept b₁ k (v / 4294967296) ∙ u32_put_same b k (v % 4294967296) (omega arith) (omega arith) in
    let high = u32_put_same b₁ (k + 4) (v / 4294967296) (omega arith) (omega arith) in
    omega (arith, low, high)
