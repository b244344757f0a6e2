-- A field that is put is its number's bytes, the low one first, copied in. Assumes nothing.
use Rattle.std.specs.Prelude.{ℕ, ◌+◌, ◌%◌, ◌/◌, ◌<◌, ◌≡◌, refl, List, length, get_or, take, drop}
use Rattle.std.specs.Int.{w16, w32, w64, to_le_bytes, from_le_bytes}
use Rattle.std.specs.List.{slice_index}
use Rattle.std.proofs.Common.{arith, ◌∙◌, lit<, get_or-take, get_or-drop}
use Rattle.std.proofs.Math.Seq.{paste, paste-zero}
use Rattle.records.specs.Fields.{u16_at, u32_at, u64_at, put16, put32, put64}
use Rattle.records.specs.Records.{paste_turn}

-- behind j bytes of s, copied in from k on, a number that is the next bytes of s
module _ (b s : List ℕ) (k : ℕ) where
  turn16 : (x : List ℕ) (i j v : ℕ) → x ≡ paste b k s j → i ≡ k + j → i + 1 < length b → j + 1 < length s
      → get_or s j 0 ≡ v % 256 → get_or s (j + 1) 0 ≡ v / 256 → put16 x i v ≡ paste b k s (j + 2)
  unfolding put16
  turn16 x i j v e p hb hs f g =
      let n : j + 1 + 1 ≡ j + 2 = omega arith in
      let q : k + j + 1 ≡ k + (j + 1) = omega arith in
      rw (e, p, paste_turn b s k j (v % 256) (omega arith) (omega arith) f, q, paste_turn b s k (j + 1) (v / 256) (omega arith) hs g, n)

  turn32 : (x : List ℕ) (i j v : ℕ) → x ≡ paste b k s j → i ≡ k + j → i + 3 < length b → j + 3 < length s
      → get_or s j 0 ≡ v % 256 → get_or s (j + 1) 0 ≡ v / 256 % 256 → get_or s (j + 2) 0 ≡ v / 65536 % 256 → get_or s (j + 3) 0 ≡ v / 16777216
      → put32 x i v ≡ paste b k s (j + 4)
  unfolding put32
  turn32 x i j v e p hb hs f₀ f₁ f₂ f₃ =
      let m : j + 2 + 1 ≡ j + 3 = omega arith in
      let n : j + 2 + 2 ≡ j + 4 = omega arith in
      let low = turn16 x i j (v % 65536) e p (omega arith) (omega arith) (omega arith) (omega arith) in
      let y = put16 x i (v % 65536) in
      let high = turn16 y (i + 2) (j + 2) (v / 65536) low (omega arith) (omega arith) (omega arith) (omega arith) (rw m (omega arith)) in
      rw n at high

module _ (b : List ℕ) (k v : ℕ) where
  pub put16_le : k + 1 < length b → v < 65536 → put16 b k v ≡ paste b k (to_le_bytes w16 v) 2
  put16_le h l =
      let s = to_le_bytes w16 v in
      turn16 b s k b k 0 v (paste-zero b k s) (omega arith) h (omega arith) refl (omega arith)

  pub put32_le : k + 3 < length b → v < 4294967296 → put32 b k v ≡ paste b k (to_le_bytes w32 v) 4
  put32_le h l =
      let s = to_le_bytes w32 v in
      turn32 b s k b k 0 v (paste-zero b k s) (omega arith) h (omega arith) refl refl refl (omega arith)

  pub put64_le : k + 7 < length b → v < 18446744073709551616 → put64 b k v ≡ paste b k (to_le_bytes w64 v) 8
  unfolding put64
  put64_le h l =
      let s = to_le_bytes w64 v in
      let x = put32 b k (v % 4294967296) in
      let low : x ≡ paste b k s 4 =
      turn32 b s k b k 0 (v % 4294967296) (paste-zero b k s)
      (omega arith) (omega arith) (omega arith) (omega arith) (omega arith) (omega arith) (omega arith) in
      turn32 b s k x (k + 4) 4 (v / 4294967296) low (omega arith) (omega arith) (omega arith) (omega arith) (omega arith) (omega arith) (omega arith)

-- a field read
module _ (b : List ℕ) (k : ℕ) where
  byte : (i : ℕ) → i < 8 → slice_index (take 8 (drop k b)) i ≡ get_or b (k + i) 0
  byte i h = get_or-take 8 (drop k b) i 0 h ∙ get_or-drop k b i 0

  pub u64_le : u64_at b k ≡ from_le_bytes w64 (take 8 (drop k b))
  unfolding u64_at u32_at u16_at
  u64_le =
      rw (
        byte 0 (lit< tt),
        byte 1 (lit< tt),
        byte 2 (lit< tt),
        byte 3 (lit< tt),
        byte 4 (lit< tt),
        byte 5 (lit< tt),
        byte 6 (lit< tt),
        byte 7 (lit< tt),
      ) (grind arith)
