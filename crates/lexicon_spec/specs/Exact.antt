-- 02, S-8: what an exact entry changes, and that without one all is as 01 has it.
-- Assumes nothing.
use Rattle.std.specs.Prelude.{ℕ, Bool, false, ◌&&◌}
use Rattle.std.proofs.Math.Bool.{true}
use mathlib.Core.List.{List, map}
use Rattle.texts.specs.Text.{folded, same, agree}
use Rattle.slots_spec.specs.Slot.{Entry}

-- 01's match: the word, folded against folded, and a tag that agrees
unfoldable pub matches : List ℕ → ℕ → Entry → Bool
matches word tag e = same e.word (map folded word) && agree true e.tag tag

-- 01's key: these two have one word and one tag
unfoldable pub same_word_and_tag : Entry → Entry → Bool
same_word_and_tag a b = same b.word a.word && agree false b.tag a.tag
