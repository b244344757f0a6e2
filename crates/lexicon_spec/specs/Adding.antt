-- 01, Lookup: Adding, and 02, S-8. What may be added, and the entry that it makes.
-- Assumes nothing.
use Rattle.std.specs.Prelude.{ℕ, Bool, ◌&&◌, ◌||◌, List, map, get_or}
use Rattle.texts.specs.Choice.{when◌then◌else◌}
use Rattle.texts.specs.Lists.{every}
use Rattle.texts.specs.Text.{bytes, folded, same}
use Rattle.records.specs.Records.{records}
use Rattle.cells.specs.Cells.{text, short_cell}
use Rattle.phoneset.specs.Phones.{is_known}
use Rattle.data.specs.Sections.{is_listed}
use Rattle.slots_spec.specs.Slot.{Entry}
use Rattle.store_spec.specs.Adding.{entry_for}

-- the tag of an entry to be added: "nil" or an empty one becomes "0", any other its first byte
unfoldable pub added_tag : List ℕ → ℕ
added_tag tag = when same tag (bytes "nil") then 48 else get_or tag 0 48

-- a phone that may be added: one of lex.phones or of the 50 (refusal 5)
unfoldable pub may_add : List ℕ → List ℕ → Bool
may_add table p = is_listed table p || is_known p

-- a cell handed in; one with a length over 15 is in no table
unfoldable pub may_add_cell : List ℕ → List ℕ → Bool
may_add_cell table c = short_cell c && may_add table (text c)

unfoldable pub may_add_all : List ℕ → List ℕ → Bool
may_add_all table phones = every (may_add_cell table) (records 16 phones)

-- a word as it is stored: that of an exact entry as it is, any other folded
unfoldable pub stored_word : Bool → List ℕ → List ℕ
stored_word exact word = when exact then word else map folded word

-- the entry to be added
unfoldable pub new_entry : List ℕ → List ℕ → List ℕ → Bool → Entry
new_entry word tag phones exact = entry_for (added_tag tag) (stored_word exact word) phones exact
