-- `add_entry` meets its contract: each return is decided by the first test of the definition that fails. Assumes nothing.
use Rattle.lexicon_spec.specs.Adding.{may_add_all, stored_word, new_entry}
use Rattle.add_entry.specs.AddEntry.{add_entry, store_after}
use Rattle.add_entry.specs.Accepted.{Passed}
use Rattle.store_spec.specs.Adding.{entry_for, is_full, kept}
use Rattle.store_spec.specs.Store.{is_sound, count, with_count, largest}
use Rattle.store_spec.proofs.Sound.{sound}
use Rattle.store_spec.proofs.Result.{long}
use Rattle.data.specs.Sections.{is_phone_table}
use Rattle.cells.specs.Cells.{ascii_phones}
use Rattle.texts.specs.Text.{is_word, word_short}
use Rattle.texts.specs.Choice.{both_true}
use Rattle.slots_spec.specs.Slot.{Entry}
use Rattle.answers.specs.Told.{refused, accepted}
use borrow.Author.Tests.{not-true, not-false, le-ltb, lt-ltb, eq-eqb, ne_eqb}
use lib.ListN.{length}
use lib.Dec.{eqb}
use native.Mathlib.Omega.{arith}
use mathlib.Core.List.{List}
use mathlib.Core.Bool.{Bool, true, false, ◌&&◌}
use mathlib.Core.Path.{◌≡◌, sym, ap, ◌∙◌}
use Prim.Native.Nat.{ℕ, ◌+◌, ◌/◌, ◌≤◌}
use Rattle.add_entry.proofs.add_entry.Goals as goal

module _ (table store word tag phones : List ℕ) (exact : Bool) (p : Passed table store word tag phones) where
  no_room : is_full store (new_entry word tag phones exact) ≡ true → (refused 8 0 ≡ add_entry table store word tag phones exact) × (kept store (new_entry word tag phones exact) ≡ store_after table store word tag phones exact)
  unfolding add_entry store_after kept
  no_room f = (rw (p.tabled, p.stored, p.rises, p.texts, p.known, p.few, f), rw (p.tabled, p.stored, p.rises, p.texts, p.known, p.few, f))

  entered : is_full store (new_entry word tag phones exact) ≡ false → (accepted 0 0 ≡ add_entry table store word tag phones exact) × (with_count (kept store (new_entry word tag phones exact)) (count store + 1) ≡ store_after table store word tag phones exact)
  unfolding add_entry store_after kept
  entered f = (rw (p.tabled, p.stored, p.rises, p.texts, p.known, p.few, f), rw (p.tabled, p.stored, p.rises, p.texts, p.known, p.few, f))

pub returns-then-not-is_phone_table : goal.returns-then-not-is_phone_table
unfolding add_entry store_after
returns-then-not-is_phone_table c =
    let t = sym c.is_phone_table.ensures ∙ c.if-not-is_phone_table.true in
    record { result_value = rw t; store_after = rw t }

pub returns-then-not-is_sound : goal.returns-then-not-is_sound
unfolding add_entry store_after
returns-then-not-is_sound c =
    let has_table : is_phone_table c.args.table.now ≡ true =
    sym c.is_phone_table.ensures ∙ c.if-not-is_phone_table.false in
    let t = sym c.is_sound.ensures ∙ c.if-not-is_sound.true in
    let a = has_table in
    record { result_value = rw (a, t); store_after = rw (a, t) }

pub count-seen-requires : goal.count-seen-requires
count-seen-requires c =
    let is_store : is_sound c.args.store.now ≡ true =
    sym c.is_sound.ensures ∙ c.if-not-is_sound.false in
    let is_long : 512 ≤ length c.args.store.now =
    let b = c.args.store.now in long (length b) (sound b (is_store)).size in
    is_long

pub returns-then-seen-largest : goal.returns-then-seen-largest
unfolding add_entry store_after
returns-then-seen-largest c =
    let has_table : is_phone_table c.args.table.now ≡ true =
    sym c.is_phone_table.ensures ∙ c.if-not-is_phone_table.false in
    let is_store : is_sound c.args.store.now ≡ true =
    sym c.is_sound.ensures ∙ c.if-not-is_sound.false in
    let t = eq-eqb (count c.args.store.now) largest (sym c.count-seen.ensures ∙ c.if-seen-largest.true ∙ c.largest.ensures) in
    let a = has_table in
    let b = is_store in
    record { result_value = rw (a, b, t); store_after = rw (a, b, t) }

pub returns-then-not-are_texts : goal.returns-then-not-are_texts
unfolding add_entry store_after
returns-then-not-are_texts c =
    let has_table : is_phone_table c.args.table.now ≡ true =
    sym c.is_phone_table.ensures ∙ c.if-not-is_phone_table.false in
    let is_store : is_sound c.args.store.now ≡ true =
    sym c.is_sound.ensures ∙ c.if-not-is_sound.false in
    let may_rise : eqb (count c.args.store.now) largest ≡ false =
    ne_eqb (count c.args.store.now) largest (λ e. c.if-seen-largest.false (c.count-seen.ensures ∙ e ∙ sym c.largest.ensures)) in
    let t = sym c.are_texts.ensures ∙ c.if-not-are_texts.true in
    let a = has_table in
    let b = is_store in
    let d = may_rise in
    record { result_value = rw (a, b, d, t); store_after = rw (a, b, d, t) }

pub may_add_all-requires : goal.may_add_all-requires
may_add_all-requires c =
    let has_table : is_phone_table c.args.table.now ≡ true =
    sym c.is_phone_table.ensures ∙ c.if-not-is_phone_table.false in
    has_table

pub returns-then-not-may_add_all : goal.returns-then-not-may_add_all
unfolding add_entry store_after
returns-then-not-may_add_all c =
    let has_table : is_phone_table c.args.table.now ≡ true =
    sym c.is_phone_table.ensures ∙ c.if-not-is_phone_table.false in
    let has_texts : (is_word c.args.word.now && is_word c.args.tag.now && ascii_phones c.args.phones.now) ≡ true =
    sym c.are_texts.ensures ∙ c.if-not-are_texts.false in
    let is_store : is_sound c.args.store.now ≡ true =
    sym c.is_sound.ensures ∙ c.if-not-is_sound.false in
    let may_rise : eqb (count c.args.store.now) largest ≡ false =
    ne_eqb (count c.args.store.now) largest (λ e. c.if-seen-largest.false (c.count-seen.ensures ∙ e ∙ sym c.largest.ensures)) in
    let t = sym c.may_add_all.ensures ∙ c.if-not-may_add_all.true in
    let a = has_table in
    let b = is_store in
    let d = may_rise in
    let f = has_texts in
    record { result_value = rw (a, b, d, f, t); store_after = rw (a, b, d, f, t) }

pub returns-then-phones-gt24 : goal.returns-then-phones-gt24
unfolding add_entry store_after
returns-then-phones-gt24 c =
    let has_table : is_phone_table c.args.table.now ≡ true =
    sym c.is_phone_table.ensures ∙ c.if-not-is_phone_table.false in
    let has_texts : (is_word c.args.word.now && is_word c.args.tag.now && ascii_phones c.args.phones.now) ≡ true =
    sym c.are_texts.ensures ∙ c.if-not-are_texts.false in
    let is_store : is_sound c.args.store.now ≡ true =
    sym c.is_sound.ensures ∙ c.if-not-is_sound.false in
    let may_be : may_add_all c.args.table.now c.args.phones.now ≡ true =
    sym c.may_add_all.ensures ∙ c.if-not-may_add_all.false in
    let may_rise : eqb (count c.args.store.now) largest ≡ false =
    ne_eqb (count c.args.store.now) largest (λ e. c.if-seen-largest.false (c.count-seen.ensures ∙ e ∙ sym c.largest.ensures)) in
    let t = lt-ltb 24 (length c.args.phones.now / 16) c.if-phones-gt24.true in
    let a = has_table in
    let b = is_store in
    let d = may_rise in
    let f = has_texts in
    let g = may_be in
    record { result_value = rw (a, b, d, f, g, t); store_after = rw (a, b, d, f, g, t) }

pub add-requires : goal.add-requires
add-requires c =
    let is_store : is_sound c.args.store.now ≡ true =
    sym c.is_sound.ensures ∙ c.if-not-is_sound.false in
    let has_texts : (is_word c.args.word.now && is_word c.args.tag.now && ascii_phones c.args.phones.now) ≡ true =
    sym c.are_texts.ensures ∙ c.if-not-are_texts.false in
    let short : length c.args.word.now ≤ 47 =
    let a = c.args in
    word_short a.word.now (both_true (is_word a.word.now) (is_word a.tag.now) (both_true (is_word a.word.now && is_word a.tag.now) (ascii_phones a.phones.now) (has_texts)).0).0 in
    (is_store, short, omega arith)

pub set_count-requires : goal.set_count-requires
set_count-requires c =
    let is_store : is_sound c.args.store.now ≡ true =
    sym c.is_sound.ensures ∙ c.if-not-is_sound.false in
    let is_long : 512 ≤ length c.args.store.now =
    let b = c.args.store.now in long (length b) (sound b (is_store)).size in
    rw c.add.auto.store (is_long)

pub shape_of-store-then-add : goal.shape_of-store-then-add
shape_of-store-then-add c = c.set_count.auto.store ∙ c.add.auto.store

pub shape_of-store : goal.shape_of-store
shape_of-store c = c.add.auto.store

pub returns-then-add : goal.returns-then-add
unfolding new_entry
returns-then-add c =
    let entry_is : entry_for c.added_tag.result (stored_word c.args.exact c.args.word.now) c.args.phones.now c.args.exact
    ≡ new_entry c.args.word.now c.args.tag.now c.args.phones.now c.args.exact =
    rw c.added_tag.ensures in
    let has_table : is_phone_table c.args.table.now ≡ true =
    sym c.is_phone_table.ensures ∙ c.if-not-is_phone_table.false in
    let has_texts : (is_word c.args.word.now && is_word c.args.tag.now && ascii_phones c.args.phones.now) ≡ true =
    sym c.are_texts.ensures ∙ c.if-not-are_texts.false in
    let is_store : is_sound c.args.store.now ≡ true =
    sym c.is_sound.ensures ∙ c.if-not-is_sound.false in
    let may_be : may_add_all c.args.table.now c.args.phones.now ≡ true =
    sym c.may_add_all.ensures ∙ c.if-not-may_add_all.false in
    let may_rise : eqb (count c.args.store.now) largest ≡ false =
    ne_eqb (count c.args.store.now) largest (λ e. c.if-seen-largest.false (c.count-seen.ensures ∙ e ∙ sym c.largest.ensures)) in
    let passed : Passed c.args.table.now c.args.store.now c.args.word.now c.args.tag.now c.args.phones.now =
    record {
      tabled = has_table;
      stored = is_store;
      rises = may_rise;
      texts = has_texts;
      known = may_be;
      few = le-ltb 24 (length c.args.phones.now / 16) (omega arith);
    } in
    let a = c.args in
    let e = entry_is in
    let f = not-true (is_full a.store.now (new_entry a.word.now a.tag.now a.phones.now a.exact)) (rw (← e) (sym c.add.ensures.value ∙ c.if-add.true)) in
    let r = entered a.table.now a.store.now a.word.now a.tag.now a.phones.now a.exact (passed) f in
    record { result_value = r.0; store_after = c.set_count.ensures ∙ rw (c.add.ensures.store_after ∙ ap (λ (x : Entry). kept a.store.now x) e, c.count-seen.ensures) r.1 }

pub returns : goal.returns
unfolding new_entry
returns c =
    let entry_is : entry_for c.added_tag.result (stored_word c.args.exact c.args.word.now) c.args.phones.now c.args.exact
    ≡ new_entry c.args.word.now c.args.tag.now c.args.phones.now c.args.exact =
    rw c.added_tag.ensures in
    let has_table : is_phone_table c.args.table.now ≡ true =
    sym c.is_phone_table.ensures ∙ c.if-not-is_phone_table.false in
    let has_texts : (is_word c.args.word.now && is_word c.args.tag.now && ascii_phones c.args.phones.now) ≡ true =
    sym c.are_texts.ensures ∙ c.if-not-are_texts.false in
    let is_store : is_sound c.args.store.now ≡ true =
    sym c.is_sound.ensures ∙ c.if-not-is_sound.false in
    let may_be : may_add_all c.args.table.now c.args.phones.now ≡ true =
    sym c.may_add_all.ensures ∙ c.if-not-may_add_all.false in
    let may_rise : eqb (count c.args.store.now) largest ≡ false =
    ne_eqb (count c.args.store.now) largest (λ e. c.if-seen-largest.false (c.count-seen.ensures ∙ e ∙ sym c.largest.ensures)) in
    let passed : Passed c.args.table.now c.args.store.now c.args.word.now c.args.tag.now c.args.phones.now =
    record {
      tabled = has_table;
      stored = is_store;
      rises = may_rise;
      texts = has_texts;
      known = may_be;
      few = le-ltb 24 (length c.args.phones.now / 16) (omega arith);
    } in
    let a = c.args in
    let e = entry_is in
    let f = not-false (is_full a.store.now (new_entry a.word.now a.tag.now a.phones.now a.exact)) (rw (← e) (sym c.add.ensures.value ∙ c.if-add.false)) in
    let r = no_room a.table.now a.store.now a.word.now a.tag.now a.phones.now a.exact (passed) f in
    record { result_value = r.0; store_after = c.add.ensures.store_after ∙ ap (λ (x : Entry). kept a.store.now x) e ∙ r.1 }
