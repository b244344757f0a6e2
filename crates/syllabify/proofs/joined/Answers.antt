-- `syllabify::joined` meets its contract: after i phones the front of out is those phones joined. Assumes nothing.
use Rattle.std.proofs.Common.{arith, ◌≡◌, ◌+◌, ◌++◌, ◌<◌, List, ℕ, ap, sym, ◌∙◌, length, take}
use Rattle.std.proofs.Math.Seq.{take-length}
use Rattle.std.proofs.lemmas.List.Edits.{take-paste}
use Rattle.cells.specs.Cells.{phones_of, length_phones_of, phone_fits_lem}
use Rattle.syllabify.proofs.Syllables.{joined_more}
use Rattle.syllabify.proofs.joined.Goals as goal

pub loop-i-preserved : goal.loop-i-preserved
loop-i-preserved c =
    let l = c.loop-i in
    let s = c.args.rest.now in
    let x = c.phone-text.result.now in
    let f = phone_fits_lem s l.i (omega arith) in
    let e = ap (λ (y : List ℕ). length y) c.phone-text.ensures in
    let g : l.i < length (phones_of s) = rw length_phones_of (omega arith) in
    let t : take (l.at + length x) c.copy_in.new.dst ≡ take l.at l.out ++ x =
    rw c.copy_in.ensures (take-paste l.out l.at x (length x) (omega arith) (omega arith) ∙ rw (take-length x)) in
    (omega arith, omega (arith, c.copy_in.auto.dst), t ∙ rw (l.invariant.2, c.phone-text.ensures) (sym (joined_more (phones_of s) l.i g)))
