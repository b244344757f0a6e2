-- 01, Lookup: the addenda are matched unfolded, in row order.
-- Assumes nothing.
use Rattle.std.specs.Prelude.{ℕ, Bool, true, ◌&&◌, List}
use Rattle.texts.specs.Text.{same, agree}
use Rattle.addenda.specs.Addenda.{Addendum}

-- a row has this word, and a tag that agrees, where "0" is any tag
unfoldable pub is_meant : List ℕ → ℕ → Addendum → Bool
is_meant word tag r = same r.word word && agree true r.tag tag
