-- `appending::put_word` meets its contract: the word's own item, then its syllables. Assumes nothing.
use native.Mathlib.Omega.{arith}
use Rattle.std.proofs.Common.{rules, sym, ◌∙◌}
use Rattle.cells.specs.Cells.{phones_of, length_phones_of}
use Rattle.appending.specs.Laws.Numbers.{size_counted}
use Rattle.appending.specs.Laws.Putting.{word_written}
use Rattle.appending.proofs.put_word.Goals as goal

pub last_syllable-requires : goal.last_syllable-requires
last_syllable-requires c =
    let s = size_counted c.args.cuts.now (phones_of c.args.phones.now) (c.requires.1 ∙ sym (length_phones_of c.args.phones.now)) c.requires.2 in
    (c.requires.2, omega arith)

pub returns : goal.returns
returns c =
    let a = c.args in
    let l = c.requires.1 ∙ sym (length_phones_of a.phones.now) in
    word_written a.cuts.now (phones_of a.phones.now) l a.word.now a.source a.sheet.now c.put_item.new.sheet c.put_syllables.new.sheet a.n a.q c.next_or.result c.last_syllable.result c.next_or.ensures (c.last_syllable.ensures (phones_of a.phones.now) l) (search rules) c.put_syllables.ensures
