-- `pipeline::saying::put` meets its contract: what was prepared is the word's bare phones and its cuts, which hand its syllables over. Assumes nothing.
use Rattle.std.proofs.Common.{arith}
use Rattle.pipeline.proofs.Put.{prepared, unused_fits, last_in, crowded, roomy}
use Rattle.pipeline.proofs.saying.put.Goals as goal

pub size-size-requires : goal.size-size-requires
size-size-requires c =
    let h = prepared _ _ _ _ _ _ _ c.version.ensures c.prepare.ensures.bare_after c.prepare.ensures.cuts_after in (h.paired, h.ended)

pub overflow_sub-unused : goal.overflow_sub-unused
overflow_sub-unused c = omega (arith, unused_fits c.args.sheet.now c.requires.0)

pub overflow_sub-unused-2 : goal.overflow_sub-unused-2
overflow_sub-unused-2 c = omega (arith, unused_fits c.args.sheet.now c.requires.0, c.used.ensures)

pub append-requires-clause-word_len_bound : goal.append-requires-clause-word_len_bound
append-requires-clause-word_len_bound c =
    let h = prepared _ _ _ _ _ _ _ c.version.ensures c.prepare.ensures.bare_after c.prepare.ensures.cuts_after in (c.requires.1, h.paired, h.ended)

pub append-requires-clause-sheet_len_bound : goal.append-requires-clause-sheet_len_bound
append-requires-clause-sheet_len_bound c = last_in c.args.sheet.now c.requires.0

pub returns-then-unused-size : goal.returns-then-unused-size
returns-then-unused-size c =
    let h = prepared _ _ _ _ _ _ _ c.version.ensures c.prepare.ensures.bare_after c.prepare.ensures.cuts_after in
    let k = crowded c.args.sheet.now c.requires.0 c.args.word.now _ _ _ c.args.source h _ c.size-size.ensures (omega (arith, c.used.ensures, c.if-unused-size.true)) in
    record { result_value = rw k; sheet_after = rw k }

pub returns : goal.returns
returns c =
    let h = prepared _ _ _ _ _ _ _ c.version.ensures c.prepare.ensures.bare_after c.prepare.ensures.cuts_after in
    let k = roomy c.args.sheet.now c.requires.0 c.args.word.now _ _ _ c.args.source h _ c.size-size.ensures (omega (arith, c.used.ensures, c.if-unused-size.false)) in
    record { result_value = rw k; sheet_after = rw k (rw (h.word c.args.word.now c.args.source) at c.append.ensures) }
