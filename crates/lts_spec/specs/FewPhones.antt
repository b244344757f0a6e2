-- 01, predict: why 7 is not among its refusals. Each letter gives at most two phones, parts of one in lts.phones: a word of 47 bytes at most 94, each of at most 15 bytes.
-- Assumes nothing.
use Prim.Native.Nat.{ℕ, ◌≤◌}
use Rattle.std.specs.Prelude.{◌≡◌, true, List, length}
use Rattle.std.proofs.Math.Option.{Option, none, some}
use Rattle.texts.specs.Lists.{every}
use Rattle.texts.specs.Text.{is_phone}

-- what a word comes to has at most n phones
abbrev pub Few : ℕ → Option (List (List ℕ)) → Type 0
Few n none = Unit {0}
Few n (some ps) = length ps ≤ n

-- each of them at most 15 bytes, all below 128
abbrev pub AreFit : Option (List (List ℕ)) → Type 0
AreFit none = Unit {0}
AreFit (some ps) = every is_phone ps ≡ true
