-- `chunks_exact(w)` gives the records of w bytes. Assumes nothing.
use Rattle.std.proofs.Common.{◌≡◌, ℕ, ◌/◌, ◌<◌, List, ◌∷◌, ◌++◌, suc, length, ap, ◌∙◌, length-append, add-one, add_comm}
use Rattle.std.proofs.Math.Nat.{div-eq_of_lt, add-div_right}
use Rattle.std.proofs.Math.Seq.{take_at, drop_at}
use Rattle.std.specs.Slice.Iter.{chunks_exact_rest, chunks_exact_size, chunks_exact_steps}
use Rattle.std.proofs.lemmas.Iterator.{YieldsList}
use Rattle.std.proofs.lemmas.Iterator.Splits.{YieldsList-from_shown_while}
use Rattle.records.specs.Records.{first_records, records, length_records}

module _ (w : ℕ) (pos : 0 < w) where
  -- a record, and those behind it
  records_more : (x t : List ℕ) → length x ≡ w → records w (x ++ t) ≡ x ∷ records w t
  unfolding records first_records
  records_more x t l =
      let e : length (x ++ t) / w ≡ suc (length t / w) = rw (length-append, l) (rw add_comm (add-div_right (length t) pos ∙ add-one (length t / w))) in
      rw (e, take_at x t w l, drop_at x t w l)

  pub chunks_yield : {s : _} (b : List ℕ) → chunks_exact_rest s ≡ b → chunks_exact_size s ≡ w → YieldsList chunks_exact_steps (λ y. y.now) s (records w b)
  chunks_yield {s} b e h =
      rw (← e)
      (YieldsList-from_shown_while chunks_exact_steps (λ y. y.now) (λ t. records w (chunks_exact_rest t)) (λ t. chunks_exact_size t ≡ w)
      (λ t u k p. rw length_records (div-eq_of_lt (rw (← k) p.1.0)))
      (λ t x u k p. (p.0 ∙ k, ap (λ (r : List ℕ). records w r) p.1.0 ∙ records_more x.now (chunks_exact_rest u) (p.1.1 ∙ k)))
      s h)
