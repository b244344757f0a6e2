-- `data::read_table` meets its contract: the strings passed fit and their places are written, so those left decide, and then the bytes of all. Assumes nothing.
use Rattle.std.proofs.Common.{◌≡◌, ◌+◌, ◌-◌, ◌*◌, ◌≤◌, ◌&&◌, ◌++◌, length, take, drop}
use Rattle.texts.specs.Text.{ascii}
use Rattle.data.specs.Sections.{is_phone_table}
use Rattle.data.specs.Places.{all_fit, end_of, places as places_of}
use Rattle.data.proofs.read_table.Given as goal

abbrev pub invariant-loop-place : goal.invariant-loop-place
invariant-loop-place l =
    let at = l.strings.pos in
    let left = l.n - l.place-index in
    (l.strings.bytes.now ≡ l.s)
    × (4 ≤ at)
    × (at ≤ length l.s)
    × (at ≤ 4 + 16 * l.place-index)
    × (is_phone_table l.s ≡ (all_fit left l.s at && ascii (take (end_of left l.s at - 4) (drop 4 l.s))))
    × (places_of l.n l.s 4 ≡ take l.place-index l.place-items ++ places_of left l.s at)
