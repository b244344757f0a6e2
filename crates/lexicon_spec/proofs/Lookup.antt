-- Theorems about `specs/Lookup.antt`: 01, Lookup, and 02, S-8: runtime entries, exact ones first and the oldest first; then the addenda; then the compiled entries.
-- What a lookup comes to, and refusals 6, 7 and 9.
-- Assumes nothing.
use Rattle.std.specs.Prelude.{ℕ, ◌*◌, ◌≤◌, ◌<◌, ◌≡◌, List, ◌++◌, get_or, drop}
use native.Mathlib.Omega.{arith}
use Rattle.std.proofs.Math.Option.{none, some}
use Rattle.std.proofs.Math.ListN.{length}
use Rattle.std.proofs.Common.{lt-ltb, le-ltb}
use Rattle.texts.specs.Lists.{place, first_just, first_none}
use Rattle.cells.specs.Cells.{cells_of}
use Rattle.addenda.specs.Addenda.{addenda, no_addendum}
use Rattle.addenda.specs.Rules.{addenda_count}
use Rattle.addenda.specs.Find.{is_meant}
use Rattle.slots_spec.specs.Slot.{Entry}
use Rattle.answers.specs.declared.Source.{Source}
use Rattle.answers.specs.declared.Source.TheVariants.{Runtime, Addenda}
use Rattle.answers.specs.Told.{source_number, refused, accepted}
use Rattle.lexicon_spec.specs.Lookup.{chosen_entry, from_compiled, find, told_finding, out_finding, found}

-- the first of the three that has the word decides
module _ (es : List Entry) (phones index dat word : List ℕ) (tag : ℕ) where
  pub find_runtime : (e : Entry) → chosen_entry es word tag ≡ some e → find es phones index dat word tag ≡ found Runtime e.phones
  unfolding find
  find_runtime e h = rw h

  module _ (no : chosen_entry es word tag ≡ none) where
    pub find_row : (n : ℕ) → n ≡ place (is_meant word tag) addenda → n < 42 → find es phones index dat word tag ≡ found Addenda (get_or addenda n no_addendum).phones
    unfolding find
    find_row n e h =
        let c = addenda_count in
        let l : place (is_meant word tag) addenda < length addenda = omega arith in
        rw (no, first_just (is_meant word tag) addenda no_addendum l, e)

    pub find_compiled : (n : ℕ) → n ≡ place (is_meant word tag) addenda → 42 ≤ n → find es phones index dat word tag ≡ from_compiled phones index dat word tag
    unfolding find
    find_compiled n e h =
        let c = addenda_count in
        let l : length addenda ≤ place (is_meant word tag) addenda = omega arith in
        rw (no, first_none (is_meant word tag) addenda l)

-- phones that are too many, too long for the output, or answered
module _ (s : Source) (ps : List (List ℕ)) (out : List ℕ) where
  pub found_many : 96 < length ps → (refused 7 0 ≡ told_finding (found s ps) out) × (out ≡ out_finding (found s ps) out)
  found_many h = let e = lt-ltb 96 (length ps) h in (rw e, rw e)

  pub found_short : length ps ≤ 96 → length out < 16 * length ps → (refused 9 0 ≡ told_finding (found s ps) out) × (out ≡ out_finding (found s ps) out)
  found_short h l =
      let e = le-ltb 96 (length ps) h in
      let k = lt-ltb (length out) (16 * length ps) l in
      (rw (e, k), rw (e, k))

  pub found_fits : length ps ≤ 96 → 16 * length ps ≤ length out
      → (accepted (source_number s) (length ps) ≡ told_finding (found s ps) out) × (cells_of ps ++ drop (16 * length ps) out ≡ out_finding (found s ps) out)
  found_fits h l =
      let e = le-ltb 96 (length ps) h in
      let k = le-ltb (length out) (16 * length ps) l in
      (rw (e, k), rw (e, k))
