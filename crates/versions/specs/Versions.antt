-- 02, S-9: the versions of a sheet. Version 1 takes off "0" and "1" as stresses, version 2 "2" too.
-- Assumes nothing.
use Rattle.std.specs.Prelude.{ℕ, Bool, ◌||◌, List, eqb}
use Rattle.texts.specs.Choice.{when◌then◌else◌}
use Rattle.texts.specs.Lists.{some}
use Rattle.texts.specs.Text.{bytes}

-- the known versions
unfoldable pub is_sheet_version : ℕ → Bool
is_sheet_version v = eqb v 1 || eqb v 2

-- the bytes that are stresses
unfoldable pub digits : ℕ → List ℕ
digits v = when eqb v 1 then bytes "01" else bytes "012"

unfoldable pub is_stress : ℕ → ℕ → Bool
is_stress v b = some (eqb b) (digits v)
