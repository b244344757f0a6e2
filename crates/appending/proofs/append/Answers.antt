-- `appending::append` meets its contract: the word's items behind those used, then the ties. Assumes nothing.
use native.Mathlib.Omega.{arith}
use mathlib.Core.Path.{sym, ◌∙◌}
use Prim.Native.Nat.{◌+◌}
use Rattle.cells.specs.Cells.{phones_of, length_phones_of}
use Rattle.appending.specs.Laws.Putting.{word_tied}
use Rattle.appending.proofs.append.Goals as goal

pub returns : goal.returns
returns c =
    let a = c.args in
    let l = c.requires.word_len_bound.1 ∙ sym (length_phones_of a.phones.now) in
    word_tied a.cuts.now (phones_of a.phones.now) l a.word.now a.source a.sheet.now c.put_word.new.sheet c.tie.new.sheet c.last-w.result c.prev-q.result (c.used-n.result + 1) c.next_or-a.result c.next_or-z.result (c.used.result + c.size.result) c.last-w.ensures c.prev-q.ensures (omega (arith, c.used-n.ensures)) (omega (arith, c.used.ensures, c.size.ensures)) c.next_or-a.ensures c.next_or-z.ensures c.put_word.ensures c.tie.ensures
