-- An accepted add entry leaves a sound store whose entries are the old ones without that key and then the new one, and whose count is one higher.
-- Assumes nothing.
use Rattle.std.specs.Prelude.{ℕ, ◌+◌, ◌/◌, ◌<◌, ◌≡◌, Bool, true, false, ◌&&◌, List, eqb, ltb}
use Rattle.std.proofs.Math.ListN.{length}
use Rattle.texts.specs.Text.{is_word}
use Rattle.cells.specs.Cells.{ascii_phones}
use Rattle.data.specs.Sections.{is_phone_table}
use Rattle.slots_spec.specs.Slot.{Entry}
use Rattle.store_spec.specs.Store.{entries, is_sound, count, largest}
use Rattle.store_spec.specs.Adding.{adding, is_full}
use Rattle.store_spec.specs.Sound.{Sound}
use Rattle.lexicon_spec.specs.Adding.{new_entry, may_add_all}

-- what an accepted entry leaves; the count rises, since that of a store in bytes is at most the largest
pub record Entered (b c : List ℕ) (e : Entry) : Type 0 where
  pub sound : Sound c
  pub entries : entries c ≡ adding e (entries b)
  pub length : length c ≡ length b
  pub rises : eqb (count b) largest ≡ false
  pub count : count b < largest → count c ≡ count b + 1

-- what the tests before the store's room say where they pass
pub record Passed (table store word tag phones : List ℕ) : Type 0 where
  pub tabled : is_phone_table table ≡ true
  pub stored : is_sound store ≡ true
  pub rises : eqb (count store) largest ≡ false
  pub texts : (is_word word && is_word tag && ascii_phones phones) ≡ true
  pub known : may_add_all table phones ≡ true
  pub few : ltb 24 (length phones / 16) ≡ false

-- what all of them say where add entry is accepted
pub record Taken (table store word tag phones : List ℕ) (exact : Bool) : Type 0 where
  pub passed : Passed table store word tag phones
  pub free : is_full store (new_entry word tag phones exact) ≡ false
