-- The bare phones, in version v, of a list in cells, and the phones of cells that stand at the front of a room.
-- Assumes nothing.
use Rattle.std.specs.Prelude.{ℕ, ◌+◌, ◌*◌, ◌/◌, ◌≤◌, ◌<◌, ◌≡◌, List, [], ◌++◌, map, length, get_or, take, drop}
use Rattle.std.proofs.Common.{arith, sym, ◌∙◌, take_at, zero-add}
use Rattle.std.proofs.Math.Seq.{paste}
use Rattle.std.proofs.lemmas.List.{length-map}
use Rattle.texts.specs.Lists.{get_d_map}
use Rattle.records.specs.Records.{put_record}
use Rattle.cells.specs.Cells.{phones_of, cell, cells_of, length_phones_of, phone_fits_lem, length_cells_of, phones_cells, cells_turn, cells_front}
use Rattle.versions.specs.Versions.{digits}
use Rattle.phoneset.specs.Stress.{bare, bare_short}

-- each bare phone fits into a cell
module _ (v : ℕ) (b : List ℕ) where
  abbrev pub bare_of : List (List ℕ)
  bare_of = map (bare (digits v)) (phones_of b)

  pub length_bare : length bare_of ≡ length b / 16
  length_bare = length-map (phones_of b) (bare (digits v)) ∙ length_phones_of b

  pub bare_at : (i : ℕ) → i < length b / 16 → get_or bare_of i [] ≡ bare (digits v) (get_or (phones_of b) i [])
  bare_at i h = get_d_map (bare (digits v)) (phones_of b) i [] [] (rw length_phones_of h)

  pub bare_fits : (i : ℕ) → i < length b / 16 → length (bare (digits v) (get_or (phones_of b) i [])) ≤ 15
  bare_fits i h = omega (arith, phone_fits_lem b i h, bare_short (digits v) (get_or (phones_of b) i []))

  pub bares_fit : (i : ℕ) → i < length bare_of → length (get_or bare_of i []) ≤ 15
  bares_fit i h = let l = length_bare in rw (bare_at i (omega arith)) (bare_fits i (omega arith))

  -- one more of them in cells at the front of a room
  pub bare_turn : (dst : List ℕ) (i : ℕ) → i < length b / 16 → 16 * (length b / 16) ≤ length dst
      → put_record 16 (paste dst 0 (cells_of bare_of) (16 * i)) i (cell (bare (digits v) (get_or (phones_of b) i []))) ≡ paste dst 0 (cells_of bare_of) (16 * (i + 1))
  bare_turn dst i h room =
      let l = length_bare in rw (← bare_at i h) (rw (zero-add i) at (cells_turn dst bare_of 0 i bares_fit (omega arith) (omega arith)))

  pub bare_all : (dst : List ℕ) (n : ℕ) → n ≡ length b / 16 → paste dst 0 (cells_of bare_of) (16 * n) ≡ cells_of bare_of ++ drop (16 * (length b / 16)) dst
  bare_all dst n e = rw (← length_bare) (cells_front dst bare_of n bares_fit (length_bare ∙ sym e))

pub ruleset bare_turns = (bare_fits, bare_turn, bare_all)

-- cells at the front of a room, read again
pub front_phones : (ps : List (List ℕ)) (more : List ℕ) (n : ℕ) → ((i : ℕ) → i < length ps → length (get_or ps i []) ≤ 15) → length ps ≡ n → phones_of (take (16 * n) (cells_of ps ++ more)) ≡ ps
front_phones ps more n h l =
    let c = length_cells_of ps h in
    rw (take_at (cells_of ps) more (16 * n) (omega arith)) (phones_cells ps h)

pub front_bares : (v : ℕ) (b more : List ℕ) → phones_of (take (16 * (length b / 16)) (cells_of (bare_of v b) ++ more)) ≡ bare_of v b
front_bares v b more = front_phones (bare_of v b) more (length b / 16) (bares_fit v b) (length_bare v b)
