-- 01, Lookup: the search for a word among the compiled entries. Only entries that it reads can be found damaged.
-- Assumes nothing.
use Prim.Native.Nat.{ℕ, zero, suc, ◌+◌, ◌-◌, ◌/◌}
use Rattle.std.specs.Prelude.{not, List, eqb, ltb, Option, Some, None, Result, Ok, Err}
use Rattle.texts.specs.Choice.{when◌then◌else◌}
use Rattle.texts.specs.Text.{same, smaller}
use Rattle.compiled_spec.specs.declared.Damaged.{Damaged}
use Rattle.compiled_spec.specs.Entries.{tag_of, word_of, is_whole, count, entry_at}

-- that an entry which was read is damaged
abbrev pub damaged : Damaged
damaged = record {}

-- an entry's number, or that there is none
abbrev pub Chosen : Type 0
Chosen = Result (Option ℕ) Damaged

-- that there is one
abbrev pub this : Result ℕ Damaged → Chosen
this (Err e) = Err e
this (Ok i) = Ok (Some i)

module _ (index dat word : List ℕ) where
  -- while lo < hi, at most n turns: the half that is left is told by the word in the middle
  unfoldable pub search : ℕ → ℕ → ℕ → Result ℕ Damaged
  search zero lo hi = Ok lo
  search (suc n) lo hi =
      when not (ltb lo hi) then Ok lo
      else when not (is_whole (entry_at index dat ((lo + hi) / 2))) then Err damaged
      else when smaller (word_of (entry_at index dat ((lo + hi) / 2))) word then search n ((lo + hi) / 2 + 1) hi
      else search n lo ((lo + hi) / 2)

  -- of the n entries from i on, while words are equal, the first with the exact tag; failing that, lo
  unfoldable pub tagged : ℕ → ℕ → ℕ → ℕ → Result ℕ Damaged
  tagged tag lo zero i = Ok lo
  tagged tag lo (suc n) i =
      when not (is_whole (entry_at index dat i)) then Err damaged
      else when not (same (word_of (entry_at index dat i)) word) then Ok lo
      else when eqb (tag_of (entry_at index dat i)) tag then Ok i
      else tagged tag lo n (i + 1)

  -- the word's entry by its tag, where the search ended at lo; missing unless entry lo exists and equals the word
  unfoldable pub from_place : ℕ → ℕ → Chosen
  from_place tag lo =
      when not (ltb lo (count index)) then Ok None
      else when not (is_whole (entry_at index dat lo)) then Err damaged
      else when not (same (word_of (entry_at index dat lo)) word) then Ok None
      else this (tagged tag lo (count index - lo) lo)

  abbrev pub on_place : ℕ → Result ℕ Damaged → Chosen
  on_place tag (Err e) = Err e
  on_place tag (Ok lo) = from_place tag lo

  -- the word's entry by its tag
  unfoldable pub chosen : ℕ → Chosen
  chosen tag = on_place tag (search (count index) 0 (count index))
