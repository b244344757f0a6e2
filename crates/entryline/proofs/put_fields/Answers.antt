-- `entryline::put_fields` meets its contract: after i fields, dst is what pasting i cells leaves. Assumes nothing.
use Rattle.std.proofs.Common.{arith, ◌≡◌, ℕ, ◌+◌, ◌*◌, ◌<◌, List, [], ◌∷◌, length, drop, get_or, sym, ap, ◌∙◌, length-drop, get_or-drop, drop-drop, zero-add}
use Rattle.std.proofs.Math.Seq.{paste}
use Rattle.std.specs.Iterator.Adapters.{enumerate_source, enumerate_count}
use Rattle.records.specs.Records.{put_record}
use Rattle.cells.specs.Cells.{cell, cells_of, cells_turn}
use Rattle.lines.specs.Lines.{fields}
use Rattle.lines.specs.Left.{fields_left}
use Rattle.entryline.proofs.put_fields.Goals as goal

-- the first of what is left of a list from i on
module _ (fs : List (List ℕ)) (i : ℕ) (x : List ℕ) (rest : List (List ℕ)) (e : drop i fs ≡ x ∷ rest) where
  inside : i < length fs
  inside = let d = length-drop i fs in let k = ap (λ (l : List (List ℕ)). length l) e in omega arith

  this : get_or fs i [] ≡ x
  this =
      let z : i + 0 ≡ i = omega arith in
      ap (λ (k : ℕ). get_or fs k []) (sym z) ∙ sym (get_or-drop i fs 0 []) ∙ ap (λ (l : List (List ℕ)). get_or l 0 []) e

  behind : drop (i + 1) fs ≡ rest
  behind = sym (drop-drop 1 i fs) ∙ ap (λ (l : List (List ℕ)). drop 1 l) e

pub loop-i-preserved : goal.loop-i-preserved
loop-i-preserved c =
    let l = c.loop-i in
    let fs = fields c.args.s.now in
    let p = c.in-Some.ensures.steps in
    let i = enumerate_count l.i-iterator in
    let x = c.in-Some.phone.now in
    let left : drop i fs ≡ x ∷ fields_left (enumerate_source c.next.new.self) = l.invariant.0 ∙ p.0 in
    let n = inside fs i x _ left in
    let t = cells_turn c.args.dst.now fs 0 i c.requires.1 n (omega (arith, c.requires.0)) in
    let u : put_record 16 (paste c.args.dst.now 0 (cells_of fs) (16 * i)) i (cell x) ≡ paste c.args.dst.now 0 (cells_of fs) (16 * (i + 1)) =
    rw (← this fs i x _ left) (ap (λ (k : ℕ). put_record 16 (paste c.args.dst.now 0 (cells_of fs) (16 * i)) k (cell (get_or fs i []))) (sym (zero-add i)) ∙ t) in
    rw p.2 (behind fs i x _ left, omega arith, c.put_cell.ensures ∙ rw (l.invariant.2, p.1) u, c.put_cell.auto.list ∙ l.invariant.3)

pub returns : goal.returns
returns c =
    let l = c.loop-i in
    let fs = fields c.args.s.now in
    let i = enumerate_count l.i-iterator in
    let z = ap (λ (r : List (List ℕ)). length r) (l.invariant.0 ∙ c.in-None.ensures.steps.0.0) in
    let d = length-drop i fs in
    let k : i ≡ length fs = omega (arith, l.invariant.1) in
    l.invariant.2 ∙ ap (λ (n : ℕ). paste c.args.dst.now 0 (cells_of fs) (16 * n)) k
