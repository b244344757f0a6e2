-- An onset that is read has at most 3 bytes: nothing cites it since a row's length byte is not trusted. Assumes nothing.
use Rattle.std.specs.Prelude.{ℕ, ◌≤◌, ◌<◌, [], length, get_or}
use Rattle.std.proofs.Common.{leb-true}
use Rattle.texts.specs.Choice.{both_true}
use Rattle.texts.specs.Lists.{every_at}
use Rattle.onsets.specs.Onsets.{onsets}
use Rattle.onsets.specs.Rules.{onset_count, fits, onsets_fit}

pub onset_short : (n : ℕ) → n < 63 → length (get_or onsets n []) ≤ 3
onset_short n h =
    let k : n < length onsets = rw onset_count h in
    leb-true (length (get_or onsets n [])) 3 (both_true _ _ (every_at fits onsets [] onsets_fit n k)).0
