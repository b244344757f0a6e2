-- `lexicon::put_spoken` meets its contract: after i phones, out is what pasting i cells leaves. Assumes nothing.
use Rattle.std.proofs.Common.{arith, ◌≡◌, sym, ap, ◌∙◌, ℕ, ◌+◌, List, [], length, get_or}
use Rattle.cells.specs.Cells.{cells_turn}
use Rattle.compiled_spec.specs.Entries.{entry_phones}
use Rattle.compiled_spec.proofs.Entries.{length_spoken, spoken_at, spoken_fits}
use Rattle.lexicon.proofs.put_spoken.Goals as goal

pub loop-i-preserved : goal.loop-i-preserved
loop-i-preserved c =
    let a = c.args in
    let i = c.loop-i.i in
    let ps = entry_phones a.table.now.bytes.now a.s.now in
    let l = length_spoken a.table.now.bytes.now a.s.now in
    let n = ap (λ (l : List ℕ). length l) c.numbers-n-items.ensures in
    let f = spoken_fits a.table.now.bytes.now a.s.now a.table.now.is_table c.requires.0 in
    let p : c.phone.result.now ≡ get_or ps i [] = c.phone.ensures ∙ rw (c.numbers-n-items.ensures) (sym (spoken_at a.table.now.bytes.now a.s.now i (omega arith))) in
    let t = cells_turn a.out.now ps 0 i f (omega arith) (omega (arith, c.requires.1)) in
    let z : 0 + i ≡ i = omega arith in
    (c.put_cell.ensures ∙ rw (c.loop-i.invariant.0, p) (rw z at t), c.put_cell.auto.list ∙ c.loop-i.invariant.1)
