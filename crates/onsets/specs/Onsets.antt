-- 01, Phones: the onset list, as the Rust has it.
-- Assumes nothing.
use Rattle.std.specs.Prelude.{ℕ, ◌-◌, Bool, List, [], ◌∷◌, ◌++◌, map, length, replicate}
use Rattle.texts.specs.Lists.{some}
use Rattle.texts.specs.Text.{bytes, same}

unfoldable pub onsets : List (List ℕ)
onsets = map bytes (
    "str" ∷ "spy" ∷ "spr" ∷ "spl" ∷ "sky" ∷ "skw" ∷ "skr" ∷ "skl" ∷ "zw" ∷
    "zl" ∷ "vy" ∷ "vr" ∷ "vl" ∷ "thw" ∷ "thr" ∷ "ty" ∷ "tw" ∷ "tr" ∷
    "shw" ∷ "shr" ∷ "shn" ∷ "shm" ∷ "shl" ∷ "sw" ∷ "sv" ∷ "st" ∷ "sr" ∷
    "sp" ∷ "sn" ∷ "sm" ∷ "sl" ∷ "sk" ∷ "sf" ∷ "py" ∷ "pw" ∷ "pr" ∷
    "pl" ∷ "ny" ∷ "my" ∷ "mr" ∷ "ly" ∷ "ky" ∷ "kw" ∷ "kr" ∷ "kl" ∷
    "hhy" ∷ "hhw" ∷ "hhr" ∷ "hhl" ∷ "gy" ∷ "gw" ∷ "gr" ∷ "gl" ∷ "fy" ∷
    "fr" ∷ "fl" ∷ "dy" ∷ "dw" ∷ "dr" ∷ "by" ∷ "bw" ∷ "br" ∷ "bl" ∷
    [])

-- a text is in a list of onsets
unfoldable pub is_onset : List (List ℕ) → List ℕ → Bool
is_onset list x = some (λ (r : List ℕ). same r x) list

-- a row as the code keeps it: a length byte, the text, zeros up to three bytes
unfoldable pub encoded : List ℕ → List ℕ
encoded x = length x ∷ x ++ replicate (3 - length x) 0
