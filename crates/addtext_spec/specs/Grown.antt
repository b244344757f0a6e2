-- A line of a text below 128 that is taken adds an entry that fits, so the store stays sound; lines that are all taken add their
-- entries in turn and leave the count, and a stop leaves the largest.
-- Assumes nothing.
use Rattle.std.specs.Prelude.{ℕ, ◌+◌, ◌≡◌, true, false, ◌&&◌, leb, ltb}
use mathlib.Core.List.{List}
use Rattle.std.proofs.Math.ListN.{length}
use Rattle.texts.specs.Lists.{every}
use Rattle.texts.specs.Text.{ascii}
use Rattle.slots_spec.specs.Slot.{Entry}
use Rattle.store_spec.specs.Store.{entries, count, largest}
use Rattle.store_spec.specs.Adding.{is_full}
use Rattle.store_spec.specs.Sound.{Sound}
use Rattle.lexicon_spec.specs.Adding.{may_add}
use Rattle.addtext_spec.specs.Filling.{Filled, onward, filled, adding_all}
use Rattle.addtext_spec.specs.Line.{Line, skipped, faulty, entry, line_entry, outcome, behind_line}

-- a line whose word and tag are below 128
unfoldable pub Low : Line → Type 0
Low skipped = Unit {0}
Low faulty = Unit {0}
Low (entry word tag phones) = (ascii word ≡ true) × (ascii tag ≡ true)

-- what the tests of an entry line say where it is taken
pub record Tested (table store word tag : List ℕ) (phones : List (List ℕ)) : Type 0 where
  pub short : (leb (length word) 47 && leb (length tag) 47) ≡ true
  pub known : every (may_add table) phones ≡ true
  pub few : ltb 24 (length phones) ≡ false
  pub free : is_full store (line_entry word tag phones) ≡ false

-- what a text that is taken whole leaves: a sound store, its entries those of the lines added in turn, its count as it was
pub record Grown (b c : List ℕ) (es : List Entry) : Type 0 where
  pub sound : Sound c
  pub entries : entries c ≡ adding_all es (entries b)
  pub length : length c ≡ length b
  pub count : count c ≡ count b

-- a line, and the lines behind it
abbrev pub past : List ℕ → List ℕ → ℕ → ℕ → List (List ℕ) → Line → Filled
past table store n k ls l = onward n k (behind_line table store l) (λ (m : ℕ). filled table (behind_line table store l) (n + 1) m ls) (outcome table store l)

-- behind any lines, also where one stopped them: a sound store, as long as it was
pub record Whole (b c : List ℕ) : Type 0 where
  pub sound : Sound c
  pub length : length c ≡ length b

-- what a stop leaves in the spare: as many bytes as the store, and the largest count
pub record Stopped (store spare : List ℕ) : Type 0 where
  pub length : length spare ≡ length store
  pub count : count spare ≡ largest
