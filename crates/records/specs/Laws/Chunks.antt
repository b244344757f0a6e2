-- Records by the library's word: whole chunks. Assumes nothing.
use Rattle.std.specs.Prelude.{ℕ, zero, suc, ◌/◌, ◌≡◌, refl, List, ◌∷◌, take, drop, length}
use Rattle.std.specs.Simd.{first_chunks}
use Rattle.std.proofs.Common.{ap}
use Rattle.records.specs.Records.{first_records, records}

first_chunked : (w n : ℕ) (b : List ℕ) → first_chunks w n b ≡ first_records w n b
unfolding first_records
first_chunked w zero b = refl
first_chunked w (suc n) b = ap (λ (l : List (List ℕ)). take w b ∷ l) (first_chunked w n (drop w b))

pub chunks_records : (w : ℕ) (b : List ℕ) → first_chunks w (length b / w) b ≡ records w b
unfolding records
chunks_records w b = first_chunked w (length b / w) b
