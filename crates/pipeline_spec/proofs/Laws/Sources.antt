-- Whatever source a word's phones come from, each has at most 15 bytes, all below 128.
-- Assumes nothing.
use Rattle.std.specs.Prelude.{ℕ, ◌≡◌, refl, true, false, ◌&&◌, List, [], ◌∷◌, map, leb, ltb, length, get_or, Some, None, Ok, Err}
use Rattle.std.proofs.Common.{arith, leb-true}
use Rattle.std.proofs.Math.Option.{Option, none, some, or_else}
use Rattle.texts.specs.Choice.{both_true, cases}
use Rattle.texts.specs.Lists.{every, first, Passes, first_passes}
use Rattle.texts.specs.Text.{folded, ascii, same, is_phone, phone_from}
use Rattle.records.specs.Records.{record_at}
use Rattle.records.specs.Fields.{u16_at}
use Rattle.records.specs.Chain.{All}
use Rattle.addenda.specs.Addenda.{Addendum, addenda}
use Rattle.addenda.specs.Rules.{phone_fits, addenda_fit, fits as row_fits}
use Rattle.addenda.specs.Find.{is_meant}
use Rattle.data.specs.Sections.{is_phone_table, table_phones}
use Rattle.slots_spec.specs.Slot.{Entry, fits, entry_of, slot, is_slot}
use Rattle.slots_spec.proofs.Slot.{fits_parts}
use Rattle.store_spec.specs.Store.{entry_at, entries, is_wanted}
use Rattle.store_spec.specs.Sound.{Slot, Sound}
use Rattle.store_spec.proofs.Sound.{entries_are}
use Rattle.compiled_spec.specs.Entries.{entry_at as compiled_at, numbers_of, entry_phones, is_spoken}
use Rattle.compiled_spec.specs.Search.{Chosen, chosen}
use Rattle.lts_spec.proofs.FewPhones.{table_phone}
use Rattle.lexicon_spec.specs.Lookup.{chosen_entry, Finding, nothing, damaged, found, on_entry, on_row, on_chosen, from_compiled, find}

-- phones of at most 15 bytes
abbrev pub Fit : Finding → Type 0
Fit nothing = Unit {0}
Fit damaged = Unit {0}
Fit (found s ps) = every is_phone ps ≡ true

-- the addenda
row_phones : (ps : List (List ℕ)) → every phone_fits ps ≡ true → every is_phone ps ≡ true
unfolding every
row_phones [] h = refl
row_phones (p ∷ ps) h =
    let b = both_true (phone_fits p) (every phone_fits ps) h in
    let c = both_true (leb (length p) 3) (ascii p) b.0 in
    let l = leb-true (length p) 3 c.0 in
    rw (phone_from p (omega arith) c.1) (row_phones ps b.1)

row_fit : (o : Option Addendum) (rest : Finding) → Passes row_fits o → Fit rest → Fit (on_row o rest)
row_fit none rest h r = r
row_fit (some a) rest h r = row_phones a.phones (both_true (ltb a.tag 128 && leb (length a.word) 6 && ascii a.word && leb (length a.phones) 8) (every phone_fits a.phones) h).1

-- the runtime entries
entry_fit : (o : Option Entry) (rest : Finding) → Passes fits o → Fit rest → Fit (on_entry o rest)
entry_fit none rest h r = r
entry_fit (some e) rest h r = (fits_parts e h).texts

-- the compiled entries
numbers_fit : (table : List ℕ) (ns : List ℕ) → is_phone_table table ≡ true → every is_phone (map (λ (n : ℕ). get_or (table_phones table) n []) ns) ≡ true
unfolding every
numbers_fit table [] t = refl
numbers_fit table (n ∷ ns) t = rw (table_phone table n t) (numbers_fit table ns t)

chosen_fit : (table index dat : List ℕ) (o : Chosen) → is_phone_table table ≡ true → Fit (on_chosen table index dat o)
unfolding entry_phones
chosen_fit table index dat (Err e) t = tt
chosen_fit table index dat (Ok None) t = tt
chosen_fit table index dat (Ok (Some i)) t =
    cases (is_spoken table (compiled_at index dat i))
    (λ e. rw e (numbers_fit table (numbers_of (compiled_at index dat i)) t))
    (λ e. rw e tt)

-- an entry that is chosen fits, as all do
either_passes : (a b : Option Entry) → Passes fits a → Passes fits b → Passes fits (or_else a b)
unfolding or_else
either_passes none b h k = k
either_passes (some e) b h k = h

chosen_passes : (es : List Entry) (word : List ℕ) (tag : ℕ) → every fits es ≡ true → Passes fits (chosen_entry es word tag)
unfolding chosen_entry
chosen_passes es word tag h =
    let exact = is_wanted true true word tag in
    let ordinary = is_wanted false true (map folded word) tag in
    either_passes (first exact es) (first ordinary es) (first_passes exact fits es h) (first_passes ordinary fits es h)

pub find_fit : (es : List Entry) (table index dat word : List ℕ) (tag : ℕ) → every fits es ≡ true → is_phone_table table ≡ true → Fit (find es table index dat word tag)
unfolding find from_compiled
find_fit es table index dat word tag h t =
    entry_fit (chosen_entry es word tag) (on_row (first (is_meant word tag) addenda) (from_compiled table index dat word tag)) (chosen_passes es word tag h)
    (row_fit (first (is_meant word tag) addenda) (from_compiled table index dat word tag) (first_passes (is_meant word tag) row_fits addenda addenda_fit)
    (chosen_fit table index dat (chosen index dat word tag) t))

-- the entries of a sound store fit
slots_fit : (b : List ℕ) (xs : List ℕ) → All (Slot b) xs → every fits (map (entry_at b) xs) ≡ true
unfolding every entry_at is_slot
slots_fit b [] a = refl
slots_fit b (x ∷ xs) a =
    let s = both_true (fits (entry_of (record_at 512 b x))) (same (record_at 512 b x) (slot (u16_at (record_at 512 b x) 0) (entry_of (record_at 512 b x)))) a.0.sound in
    rw s.0 (slots_fit b xs a.1)

pub entries_fit : (b : List ℕ) → Sound b → every fits (entries b) ≡ true
entries_fit b s = rw (entries_are b s) (slots_fit b s.chained s.each)
