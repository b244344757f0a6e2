-- Stores that a list of added entries makes of a new store, by the call's own definitions; what they hold, and what a word without a tag then gives.
-- Assumes nothing.
use Rattle.std.specs.Prelude.{ℕ, ◌+◌, ◌*◌, ◌/◌, ◌≤◌, ◌<◌, ◌≡◌, refl, Bool, true, not, ◌&&◌, List, [], ◌∷◌, ◌++◌, ltb, length, drop}
use Rattle.std.proofs.Common.{arith, sym, ap, ◌∙◌, length-append, ne_eqb}
use Rattle.std.proofs.lemmas.Bool.{lt-leb, not-true}
use Rattle.texts.specs.Choice.{both_true, cases}
use Rattle.texts.specs.Lists.{some, every}
use Rattle.texts.specs.Text.{is_word}
use Rattle.records.specs.Records.{records}
use Rattle.cells.specs.Cells.{cells_of, text, short_cell, ascii_phones}
use Rattle.phoneset.specs.Phones.{is_known}
use Rattle.data.specs.Sections.{is_phone_table, is_listed}
use Rattle.slots_spec.specs.Slot.{Entry}
use Rattle.store_spec.specs.Store.{slots, used, count, largest, entries, same_key}
use Rattle.store_spec.specs.Adding.{without, adding, is_full}
use Rattle.store_spec.specs.Sound.{Sound}
use Rattle.store_spec.proofs.Sound.{is_sound_lem}
use Rattle.store_spec.proofs.Result.{used_is}
use Rattle.compiled_spec.specs.Lexicon.{is_lexicon}
use Rattle.answers.specs.declared.Source.{Source}
use Rattle.answers.specs.Told.{accepted, source_number}
use Rattle.lexicon_spec.specs.Adding.{may_add, may_add_cell, may_add_all, new_entry}
use Rattle.add_entry.specs.AddEntry.{add_entry, store_after}
use Rattle.add_entry.proofs.Accepted.{add_law}
use Rattle.lexicon_spec.specs.Lookup.{Finding, found, find, wanted_tag, told_finding, out_finding}
use Rattle.lexicon_spec.proofs.Lookup.{found_fits}
use Rattle.lookup.specs.Lookup.{lookup, looked_up}
use Rattle.lookup.proofs.LookupLaws.{lookup_on_entries}

-- an entry to be added: a word, a tag, its phones as cells, and whether it is exact
pub record Add : Type 0 where
  pub word : List ℕ
  pub tag : List ℕ
  pub phones : List ℕ
  pub exact : Bool

-- the store after some adds, and that each was accepted
unfoldable pub grown : List ℕ → List ℕ → List Add → List ℕ
grown table store [] = store
grown table store (a ∷ more) = grown table (store_after table store a.word a.tag a.phones a.exact) more

abbrev pub AllAccepted : List ℕ → List ℕ → List Add → Type 0
AllAccepted table store [] = Unit {0}
AllAccepted table store (a ∷ more) =
    (add_entry table store a.word a.tag a.phones a.exact ≡ accepted 0 0) × AllAccepted table (store_after table store a.word a.tag a.phones a.exact) more

-- the entries that they make
unfoldable pub book : List Entry → List Add → List Entry
book es [] = es
book es (a ∷ more) = book (adding (new_entry a.word a.tag a.phones a.exact) es) more

-- a cell with one of the 50 phones may be added, whatever the table
unfoldable pub is_own : List ℕ → Bool
is_own c = short_cell c && is_known (text c)

-- texts fit, phones are of the 50, and there are at most 24
unfoldable pub is_plain : Add → Bool
is_plain a = (is_word a.word && is_word a.tag && ascii_phones a.phones) && every is_own (records 16 a.phones) && not (ltb 24 (length a.phones / 16))

own_cells : (table : List ℕ) (cs : List (List ℕ)) → every is_own cs ≡ true → every (may_add_cell table) cs ≡ true
unfolding every is_own may_add_cell may_add
own_cells table [] h = refl
own_cells table (c ∷ cs) h =
    let b = both_true (short_cell c && is_known (text c)) (every is_own cs) h in
    let d = both_true (short_cell c) (is_known (text c)) b.0 in
    let ih = own_cells table cs b.1 in
    cases (is_listed table (text c)) (λ e. rw (d.0, e, ih)) (λ e. rw (d.0, e, d.1, ih))

length_without : (e : Entry) (es : List Entry) → length (without e es) ≤ length es
unfolding without
length_without e [] = omega arith
length_without e (x ∷ xs) = let ih = length_without e xs in cases (same_key e x) (λ k. rw k (omega arith)) (λ k. rw k (omega arith))

length_adding : (e : Entry) (es : List Entry) → length (adding e es) ≤ length es + 1
unfolding adding
length_adding e es = let h = length_without e es in simp length-append (omega arith)

-- a plain entry is accepted where there is a slot and the count can rise
add_plain : (table store : List ℕ) (a : Add) → is_phone_table table ≡ true → (s : Sound store) → is_plain a ≡ true → length (entries store) + 1 < slots store
    → count store < largest → add_entry table store a.word a.tag a.phones a.exact ≡ accepted 0 0
unfolding is_plain add_entry may_add_all is_full
add_plain table store a t s p room below =
    let b = both_true ((is_word a.word && is_word a.tag && ascii_phones a.phones) && every is_own (records 16 a.phones)) (not (ltb 24 (length a.phones / 16))) p in
    let d = both_true (is_word a.word && is_word a.tag && ascii_phones a.phones) (every is_own (records 16 a.phones)) b.0 in
    let u = used_is store s in
    let c = ne_eqb (count store) largest (λ e. absurd (omega arith)) in
    let f = not-true (ltb 24 (length a.phones / 16)) b.1 in
    let l = lt-leb (slots store) (used store + 1) (omega arith) in
    cases (some (same_key (new_entry a.word a.tag a.phones a.exact)) (entries store))
    (λ k. rw (t, is_sound_lem store s, c, d.0, own_cells table (records 16 a.phones) d.1, f, k))
    (λ k. rw (t, is_sound_lem store s, c, d.0, own_cells table (records 16 a.phones) d.1, f, k, l))

-- what a store grown by plain entries is
pub record Grown (table store : List ℕ) (adds : List Add) : Type 0 where
  pub taken : AllAccepted table store adds
  pub sound : Sound (grown table store adds)
  pub holds : entries (grown table store adds) ≡ book (entries store) adds

pub grow : (table store : List ℕ) (adds : List Add) → is_phone_table table ≡ true → Sound store → every is_plain adds ≡ true → length (entries store) + length adds < slots store
    → count store + length adds ≤ largest → Grown table store adds
unfolding grown book every
grow table store [] t s p room low = record { taken = tt; sound = s; holds = refl }
grow table store (a ∷ more) t s p room low =
    let b = both_true (is_plain a) (every is_plain more) p in
    let h = add_plain table store a t s b.0 (omega arith) (omega arith) in
    let l = add_law table store a.word a.tag a.phones a.exact h in
    let n = length_adding (new_entry a.word a.tag a.phones a.exact) (entries store) in
    let k : slots (store_after table store a.word a.tag a.phones a.exact) ≡ slots store = ap (λ (m : ℕ). m / 512) l.length in
    let e : length (entries (store_after table store a.word a.tag a.phones a.exact))
    ≡ length (adding (new_entry a.word a.tag a.phones a.exact) (entries store)) = ap (λ (es : List Entry). length es) l.entries in
    let c = l.count (omega arith) in
    let g = grow table (store_after table store a.word a.tag a.phones a.exact) more t l.sound b.1 (omega arith) (omega arith) in
    record { taken = (h, g.taken); sound = g.sound; holds = g.holds ∙ ap (λ (es : List Entry). book es more) l.entries }

-- phones that are found are answered where the output has room
pub answered : (phones index dat store word tag out : List ℕ) (s : Source) (ps : List (List ℕ)) → is_lexicon phones index ≡ true → Sound store → (is_word word && is_word tag) ≡ true
    → find (entries store) phones index dat word (wanted_tag tag) ≡ found s ps → length ps ≤ 96 → 16 * length ps ≤ length out
    → (lookup phones index dat store word tag out ≡ accepted (source_number s) (length ps)) × (looked_up phones index dat store word tag out ≡ cells_of ps ++ drop (16 * length ps) out)
answered phones index dat store word tag out s ps f h w e n l =
    let a = lookup_on_entries phones index dat store word tag out f (is_sound_lem store h) w in
    let b = found_fits s ps out n l in
    (a.0 ∙ ap (λ (x : Finding). told_finding x out) e ∙ sym b.0, a.1 ∙ ap (λ (x : Finding). out_finding x out) e ∙ sym b.1)
