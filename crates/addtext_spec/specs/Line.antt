-- 01, Lookup: Adding. What a line of a text of entries says, and the first of the refusals 3, 4, 5, 7 and 8 that applies to it.
-- Assumes nothing.
use Rattle.std.specs.Prelude.{ℕ, ◌+◌, false, true, Bool, Result, Ok, Err, not, ◌&&◌, List, [], ◌∷◌, map, leb, ltb, length, take, drop}
use Rattle.texts.specs.Choice.{when◌then◌else◌}
use Rattle.texts.specs.Lists.{every, place}
use Rattle.texts.specs.Text.{folded, is}
use Rattle.lines.specs.Lines.{content, is_empty, fields, stripped}
use Rattle.slots_spec.specs.Slot.{Entry}
use Rattle.store_spec.specs.Adding.{is_full, added}
use Rattle.lexicon_spec.specs.Adding.{added_tag, may_add}
use Rattle.answers.specs.declared.Refusal.{Refusal}
use Rattle.answers.specs.declared.Refusal.TheVariants.{Text, Line as NoColon, UnknownPhone, Phones, Full}

-- a line: blank or a comment; no colon or no word before it; or a word, a tag and phones
pub data Line : Type 0 where
  skipped : Line
  faulty : Line
  entry : List ℕ → List ℕ → List (List ℕ) → Line

-- the first field, stripped of its outer quote marks, is the word, the second its tag, further ones are ignored
unfoldable pub on_fields : List (List ℕ) → List (List ℕ) → Line
on_fields [] phones = faulty
on_fields (word ∷ []) phones = entry (stripped word) [] phones
on_fields (word ∷ tag ∷ more) phones = entry (stripped word) tag phones

-- cut at "#", skipped if blank, split at the first colon
unfoldable pub on_content : List ℕ → Line
on_content c =
    when is_empty c then skipped
    else when leb (length c) (place (is 58) c) then faulty
    else on_fields (fields (take (place (is 58) c) c)) (fields (drop (place (is 58) c + 1) c))

unfoldable pub read_line : List ℕ → Line
read_line l = on_content (content l)

-- the entry of a line, its word folded
unfoldable pub line_entry : List ℕ → List ℕ → List (List ℕ) → Entry
line_entry word tag phones = record { tag = added_tag tag; word = map folded word; phones = phones; exact = false }

-- what comes of an entry line in a store: the first refusal that applies, in rank order, or it is taken; every byte of the text is below 128 by then
unfoldable pub judged : List ℕ → List ℕ → List ℕ → List ℕ → List (List ℕ) → Result Bool Refusal
judged table store word tag phones =
    when not (leb (length word) 47 && leb (length tag) 47) then Err Text
    else when not (every (may_add table) phones) then Err UnknownPhone
    else when ltb 24 (length phones) then Err Phones
    else when is_full store (line_entry word tag phones) then Err Full
    else Ok true

-- what comes of a line: whether it adds an entry, or the first refusal
unfoldable pub outcome : List ℕ → List ℕ → Line → Result Bool Refusal
outcome table store skipped = Ok false
outcome table store faulty = Err NoColon
outcome table store (entry word tag phones) = judged table store word tag phones

-- the store behind a line: with its entry added if it was taken
unfoldable pub on_outcome : Result Bool Refusal → List ℕ → List ℕ → List ℕ
on_outcome (Ok false) store with = store
on_outcome (Ok true) store with = with
on_outcome (Err r) store with = store

unfoldable pub behind_line : List ℕ → List ℕ → Line → List ℕ
behind_line table store skipped = store
behind_line table store faulty = store
behind_line table store (entry word tag phones) = on_outcome (judged table store word tag phones) store (added store (line_entry word tag phones))
