-- 01, Store and sheet, with the count of 02, S-2, and the exact entries of S-8: the store, slots of 512 bytes in lent bytes,
-- chained from slot 0 on; when it is sound, and its entries.
-- Assumes nothing.
use Rattle.std.specs.Prelude.{ℕ, zero, suc, ◌*◌, ◌%◌, ◌/◌, Bool, true, false, not, ◌&&◌, List, [], ◌∷◌, map, eqb, leb, ltb, length, take, drop}
use Rattle.std.specs.Bool.{beq}
use Rattle.texts.specs.Lists.{every, some}
use Rattle.texts.specs.Text.{is, same, agree}
use Rattle.records.specs.Fields.{u16_at, u64_at, put64}
use Rattle.records.specs.Records.{record_at}
use Rattle.records.specs.Chain.{chain, end_of}
use Rattle.slots_spec.specs.Slot.{Entry, entry_of, is_slot}

-- the next field of a slot; that of slot 0 is the first
unfoldable pub next : List ℕ → ℕ → ℕ
next b n = u16_at b (512 * n)

-- slot 0's other fields
abbrev pub last : List ℕ → ℕ
last b = u16_at b 2

abbrev pub used : List ℕ → ℕ
used b = u16_at b 4

-- its count, bytes 8 to 15: how often entries were added (02, S-2)
abbrev pub count : List ℕ → ℕ
count b = u64_at b 8

-- the store with another count
abbrev pub with_count : List ℕ → ℕ → List ℕ
with_count b n = put64 b 8 n

-- the largest count; one higher there is none (refusal 12)
abbrev pub largest : ℕ
largest = 18446744073709551615

-- how many slots there are, slot 0 among them
abbrev pub slots : List ℕ → ℕ
slots b = length b / 512

-- the entry that slot n holds
unfoldable pub entry_at : List ℕ → ℕ → Entry
entry_at b n = entry_of (record_at 512 b n)

-- the slots, and the entries, in chain order
unfoldable pub order : List ℕ → List ℕ
order b = chain (next b) (used b) 0

unfoldable pub entries : List ℕ → List Entry
entries b = map (entry_at b) (order b)

-- a store's length is a multiple of 512 up to 65,536, at least 512
unfoldable pub is_store_length : ℕ → Bool
is_store_length n = leb 512 n && leb n 65536 && eqb (n % 512) 0

-- an entry is exact or not, as wanted, and has this word, and a tag that agrees
unfoldable pub is_wanted : Bool → Bool → List ℕ → ℕ → Entry → Bool
is_wanted exact any word tag e = beq e.exact exact && same e.word word && agree any e.tag tag

-- the key of an entry is its word, its tag and whether it is exact: these two have one key
unfoldable pub same_key : Entry → Entry → Bool
same_key a b = is_wanted a.exact false a.word a.tag b

-- no two entries have one key
unfoldable pub keys_differ : List Entry → Bool
keys_differ [] = true
keys_differ (e ∷ es) = not (some (same_key e) es) && keys_differ es

-- behind slot p stand n slots, each numbered 1 to top and sound by itself, and then nothing
unfoldable pub walks : List ℕ → ℕ → ℕ → ℕ → Bool
walks b top zero p = eqb (next b p) 0
walks b top (suc n) p = not (eqb (next b p) 0) && leb (next b p) top && is_slot (record_at 512 b (next b p)) && walks b top n (next b p)

-- slot 0 behind "used" is zero, but for the count
unfoldable pub is_rest : List ℕ → Bool
is_rest r = every (is 0) (take 2 r) && every (is 0) (drop 10 r)

-- the chain visits as many slots as are used, its last is "last", keys differ, and slot 0 is zero but for its fields
unfoldable pub is_sound : List ℕ → Bool
is_sound b =
    is_store_length (length b) && ltb (used b) (slots b) && is_rest (drop 6 (record_at 512 b 0))
    && walks b (used b) (used b) 0 && eqb (end_of 0 (order b)) (last b) && keys_differ (entries b)
