-- A word put last on a sound sheet: what was prepared hands its syllables over, and the sheet has room for it or is too crowded. Assumes nothing.
use Rattle.std.specs.Prelude.{ℕ, ◌+◌, ◌-◌, ◌*◌, ◌/◌, ◌≤◌, ◌<◌, ◌≡◌, refl, true, false, List, ◌++◌, length, take}
use Rattle.std.proofs.Common.{arith, ap, ◌∙◌}
use borrow.Author.Tests.{le-leb, lt-leb}
use Rattle.cells.specs.Cells.{phones_of, cells_of}
use Rattle.utterance_spec.specs.Tree.{Word}
use Rattle.utterance_spec.specs.Sheet.{at, used, items, is_sound, version}
use Rattle.utterance_spec.specs.Cuts.{grouped}
use Rattle.utterance_spec.specs.Append.{size, size_in}
use Rattle.utterance_spec.proofs.Decided.{sound}
use Rattle.utterance_spec.proofs.Appended.{few, last_word_in, last_phone_in}
use Rattle.pipeline_spec.specs.Pronounced.{said}
use Rattle.pipeline_spec.specs.Cutting.{cuts_of}
use Rattle.pipeline_spec.specs.Placing.{is_crowded}
use Rattle.pipeline_spec.proofs.Laws.BareCells.{bare_of}
use Rattle.pipeline_spec.proofs.Laws.Cuts.{own_marks}
use Rattle.pipeline_spec.proofs.Laws.Handed.{Handed, handed}

-- by the sheet's version
pub prepared : (v w : ℕ) (phones bare cuts more rest : List ℕ) → v ≡ w → bare ≡ cells_of (bare_of v phones) ++ more → cuts ≡ cuts_of v 48 (own_marks v (phones_of phones)) (phones_of phones) ++ rest
    → Handed w phones (take (16 * (length phones / 16)) bare) (take (length phones / 16) cuts)
prepared v w phones bare cuts more rest e b c =
    let n = length phones / 16 in
    rw (← e) (handed v phones (take (16 * n) bare) (take n cuts) more rest n refl (ap (λ s. take (16 * n) s) b) (ap (λ s. take n s) c))

module _ (sheet : List ℕ) (s : is_sound sheet ≡ true) where
  pub unused_fits : used sheet < length sheet / 64
  unused_fits = (sound sheet s).room

  pub last_in : (length sheet ≤ 65536) × ((at sheet 0).last ≤ used sheet) × ((at sheet 0).prev ≤ used sheet)
  last_in = let b = sound sheet s in (few (length sheet) b.size, last_word_in sheet b, last_phone_in sheet b)

  -- the word's size beside the unused items
  module _ (word phones cells ends : List ℕ) (source : ℕ) (h : Handed (version sheet) phones cells ends) (n : ℕ) (e : n ≡ 1 + size_in (grouped ends (phones_of cells))) where
    sized : n ≡ size (said (version sheet) word source (phones_of phones))
    unfolding size
    sized = e ∙ ap (λ (w : Word). 1 + size_in w.syllables) (h.word word source)

    pub crowded : length sheet / 64 - 1 - used sheet < n → is_crowded sheet (said (version sheet) word source (phones_of phones)) ≡ true
    crowded l = le-leb (items sheet) (used sheet + size (said (version sheet) word source (phones_of phones))) (omega (arith, sized, unused_fits))

    pub roomy : n ≤ length sheet / 64 - 1 - used sheet → is_crowded sheet (said (version sheet) word source (phones_of phones)) ≡ false
    roomy l = lt-leb (items sheet) (used sheet + size (said (version sheet) word source (phones_of phones))) (omega (arith, sized, unused_fits))
