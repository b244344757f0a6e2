-- The rules of the onset list, each one test that is computed over the whole list.
-- Assumes nothing.
use Rattle.std.specs.Prelude.{ℕ, ◌≡◌, refl, Bool, true, ◌&&◌, List, leb, length}
use Rattle.texts.specs.Lists.{every, some}
use Rattle.texts.specs.Text.{ascii, low, same, distinct}
use Rattle.onsets.specs.Onsets.{onsets}

pub onset_count : length onsets ≡ 63
unfolding onsets
onset_count = refl

-- an onset has at most 3 bytes, all below 128
abbrev pub fits : List ℕ → Bool
fits x = leb (length x) 3 && ascii x

pub onsets_fit : every fits onsets ≡ true
unfolding onsets every ascii low
onsets_fit = refl

-- no onset stands twice
pub onsets_differ : distinct onsets ≡ true
unfolding onsets distinct some same
onsets_differ = refl
