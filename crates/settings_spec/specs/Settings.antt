-- 02, S-12: a settings store, records of 32 bytes in lent bytes, chained by a next index; its values, and what is wrong with it for a reader.
-- Record 0: version 0-1, first 2-3. Others: next 0-1, name length 2, name 3-17, kind 18, value 19-22. No other byte is looked at.
-- Assumes nothing.
use Rattle.std.specs.Prelude.{ℕ, zero, suc, ◌+◌, ◌*◌, ◌/◌, ◌≡◌, ◌≢◌, Option, MatchOption, Bool, not, ◌&&◌, ◌||◌, List, [], ◌∷◌, map, eqb, leb, ltb, length, get_or, take, drop, pos}
use Rattle.texts.specs.Choice.{when◌then◌else◌}
use Rattle.texts.specs.Text.{bytes, same, distinct}
use Rattle.records.specs.Fields.{u16_at, u32_at}
use Rattle.records.specs.Chain.{chain}
use Rattle.values.specs.declared.Setting.{Setting}
use Rattle.values.specs.declared.Setting.TheVariants.{Whole, Real}
use Rattle.values.specs.declared.Known.TheVariants.{Pitch, Stretch, Level}
use Rattle.values.specs.Values.{one, setting_of, fits}

-- 32 to 65,536 bytes
unfoldable pub is_length : ℕ → Bool
is_length n = leb 32 n && leb n 65536

-- how many whole records there are, record 0 among them; a remainder is ignored
abbrev pub count : List ℕ → ℕ
count b = length b / 32

-- behind record 0 stands the first, behind any other its next; zero ends the chain
unfoldable pub next : List ℕ → ℕ → ℕ
next b i = u16_at b (when eqb i 0 then 2 else 32 * i)

-- a record's number, and none where it is 0, as a chain has it
abbrev pub Found : Option ℕ → ℕ → Type 0
Found found i = MatchOption found (i ≡ 0) (λ j. (j ≡ i) × (j ≢ 0))

-- the fields of record i: its name, its kind, and where its value stands
unfoldable pub name_at : List ℕ → ℕ → List ℕ
name_at b i = take (get_or b (32 * i + 2) 0) (drop (32 * i + 3) b)

abbrev pub kind_at : List ℕ → ℕ → ℕ
kind_at b i = get_or b (32 * i + 18) 0

abbrev pub value_at : ℕ → ℕ
value_at i = 32 * i + 19

-- a version is 1 or 2
unfoldable pub is_version : ℕ → Bool
is_version v = eqb v 1 || eqb v 2

-- record i is inside, its name has at most 15 bytes, and its kind is 1 or 2
unfoldable pub is_record : List ℕ → ℕ → Bool
is_record b i = ltb i (count b) && leb (get_or b (32 * i + 2) 0) 15 && (eqb (kind_at b i) 1 || eqb (kind_at b i) 2)

-- behind record p stand at most n records, each right by itself, and then nothing: no index outside, no circle
unfoldable pub walks : List ℕ → ℕ → ℕ → Bool
walks b zero p = eqb (next b p) 0
walks b (suc n) p = eqb (next b p) 0 || is_record b (next b p) && walks b n (next b p)

-- the records in chain order
unfoldable pub order : List ℕ → List ℕ
order b = chain (next b) (count b) 0

-- no index outside, no circle, no length or kind out of range, no name twice
unfoldable pub is_sound : List ℕ → Bool
is_sound b = walks b (count b) 0 && distinct (map (name_at b) (order b))

-- of some records the first of this name, 0 if there is none
unfoldable pub named : List ℕ → List ℕ → List ℕ → ℕ
named b name [] = 0
named b name (i ∷ is) = when same name (name_at b i) then i else named b name is

-- the record of a setting
unfoldable pub record_of : List ℕ → List ℕ → ℕ
record_of b name = named b name (order b)

-- its value, and another where it has no record
unfoldable pub value_of : List ℕ → List ℕ → Setting → Setting
value_of b name missing = when eqb (record_of b name) 0 then missing else setting_of (kind_at b (record_of b name)) (u32_at b (value_at (record_of b name)))

-- a missing setting is 100, 1.0 or 80
unfoldable pub pitch_of : List ℕ → Setting
pitch_of b = value_of b (bytes "pitch") (Whole (pos 100))

unfoldable pub stretch_of : List ℕ → Setting
stretch_of b = value_of b (bytes "stretch") (Real one)

unfoldable pub level_of : List ℕ → Setting
level_of b = value_of b (bytes "level") (Whole (pos 80))

-- every setting that version v knows is of its kind and in its range
unfoldable pub all_fit : ℕ → List ℕ → Bool
all_fit v b = fits Pitch (pitch_of b) && fits Stretch (stretch_of b) && (not (eqb v 2) || fits Level (level_of b))

-- what is wrong with a store for a reader of version v, before its values: 2, 15 or 16, and 0 if nothing is
unfoldable pub store_refusal : ℕ → List ℕ → ℕ
store_refusal v b =
    when not (is_length (length b)) then 2
    else when not (is_version v && is_version (u16_at b 0)) then 15
    else when not (is_sound b) then 16
    else 0
