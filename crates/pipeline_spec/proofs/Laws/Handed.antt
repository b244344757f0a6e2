-- A word as it is handed to the sheet: the bare phones and the cuts that were prepared are those of the word that is said.
-- Assumes nothing.
use Rattle.std.specs.Prelude.{ℕ, ◌*◌, ◌/◌, ◌≡◌, take}
use Rattle.std.proofs.Common.{arith, sym, ◌∙◌}
use Rattle.std.proofs.Math.Path.{ap, subst}
use mathlib.Core.List.{List, ◌++◌}
use Rattle.std.proofs.Math.ListN.{length}
use Rattle.std.proofs.Math.Seq.{take-append_seam}
use Rattle.cells.specs.Cells.{phones_of, cells_of, length_cells_of, length_phones_of}
use Rattle.utterance_spec.specs.Tree.{Syllable}
use Rattle.utterance_spec.specs.Cuts.{cut_word, Ended}
use Rattle.pipeline_spec.specs.Pronounced.{said}
use Rattle.pipeline_spec.specs.Cutting.{cuts_of}
use Rattle.pipeline_spec.proofs.Laws.Cuts.{own_marks, cuts_sung, cuts_ended, length_cuts, length_own}
use Rattle.pipeline_spec.proofs.Laws.BareCells.{bare_of, length_bare, bares_fit, front_phones}

pub record Handed (v : ℕ) (phones cells ends : List ℕ) : Type 0 where
  pub paired : length ends ≡ length cells / 16
  pub ended : Ended ends
  pub word : (text : List ℕ) (source : ℕ) → cut_word text source ends (phones_of cells) ≡ said v text source (phones_of phones)

module _ (v : ℕ) (phones cells ends more rest : List ℕ) (n : ℕ) (e : n ≡ length phones / 16)
    (b : cells ≡ take (16 * n) (cells_of (bare_of v phones) ++ more)) (c : ends ≡ take n (cuts_of v 48 (own_marks v (phones_of phones)) (phones_of phones) ++ rest)) where
  cuts_long : length (cuts_of v 48 (own_marks v (phones_of phones)) (phones_of phones)) ≡ n
  cuts_long = length_cuts v 48 (own_marks v (phones_of phones)) (phones_of phones) (length_own v (phones_of phones)) ∙ length_phones_of phones ∙ sym e

  bare_long : length (bare_of v phones) ≡ n
  bare_long = length_bare v phones ∙ sym e

  cuts_are : ends ≡ cuts_of v 48 (own_marks v (phones_of phones)) (phones_of phones)
  cuts_are = c ∙ ap (λ (k : ℕ). take k (cuts_of v 48 (own_marks v (phones_of phones)) (phones_of phones) ++ rest)) (sym cuts_long) ∙ take-append_seam (cuts_of v 48 (own_marks v (phones_of phones)) (phones_of phones)) rest

  cells_long : length cells ≡ 16 * n
  cells_long =
      let l = length_cells_of (bare_of v phones) (bares_fit v phones) in
      let k : 16 * n ≡ length (cells_of (bare_of v phones)) = ap (λ (m : ℕ). 16 * m) (sym bare_long) ∙ sym l in
      ap (λ (s : List ℕ). length s) (b ∙ ap (λ (m : ℕ). take m (cells_of (bare_of v phones) ++ more)) k ∙ take-append_seam (cells_of (bare_of v phones)) more) ∙ sym k

  cells_are : phones_of cells ≡ bare_of v phones
  cells_are = ap phones_of b ∙ front_phones (bare_of v phones) more n (bares_fit v phones) bare_long

  pub handed : Handed v phones cells ends
  unfolding said
  handed =
      let l = ap (λ (s : List ℕ). length s) cuts_are ∙ cuts_long in
      let m = cells_long in
      record {
        paired = omega (arith, l, m);
        ended = subst Ended (sym cuts_are) (cuts_ended v (phones_of phones));
        word = λ text source.
            ap (λ (ys : List Syllable). record { text = text; source = source; syllables = ys }) (rw (cuts_are, cells_are) (cuts_sung v (phones_of phones)));
      }
