-- The name that a row of the table starts with. Nothing cites it. Assumes nothing.
use Rattle.std.specs.Prelude.{ℕ, ◌-◌, ◌<◌, ◌≡◌, List, [], ◌++◌, map, take, drop, replicate}
use Rattle.std.proofs.Common.{arith}
use Rattle.std.proofs.Math.ListN.{length, get_or, length-append}
use Rattle.std.proofs.Math.Seq.{take-append_seam}
use Rattle.phoneset.specs.Phones.{phones, no_phone, encoded}
use Rattle.phoneset.specs.Rules.{row_at}

-- what is read of row n of a table with these rows
module _ (table : List (List ℕ)) (e : table ≡ map encoded phones) (n : ℕ) (h : n < 50) where
  pub row_fits_lem : get_or (get_or table n []) 0 0 < length (get_or table n [])
  unfolding encoded
  row_fits_lem = rw (row_at table e n h) (simp length-append (omega arith))

  pub row_name : take (get_or (get_or table n []) 0 0) (drop 1 (get_or table n [])) ≡ (get_or phones n no_phone).name
  unfolding encoded
  row_name = let r = get_or phones n no_phone in rw (row_at table e n h) (take-append_seam r.name (replicate (4 - length r.name) 0 ++ r.features))
