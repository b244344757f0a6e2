-- `adding::may_add_all` meets its contract: `chunks_exact` gives the records. Assumes nothing.
use Rattle.std.proofs.Common.{arith, rules, tests, sym, ◌∙◌}
use Rattle.std.proofs.lemmas.Iterator.Search.{all_from_yields_List}
use Rattle.texts.specs.Laws.Library.{every_list_all}
use Rattle.records.specs.Records.{records}
use Rattle.slots.proofs.Chunks.{chunks_yield}
use Rattle.lexicon_spec.specs.Adding.{may_add_cell, may_add_all}
use Rattle.adding.proofs.may_add_all.Goals as goal

pub returns : goal.returns
unfolding may_add_all
returns c =
    let b = c.args.list.now in
    let f = may_add_cell c.args.table.now in
    all_from_yields_List f _ _ c.all.result c.all.ensures.ran (chunks_yield 16 (omega arith) b c.chunks_exact.ensures.rest c.chunks_exact.ensures.size) (λ x b q k. search (rules, tests)) ∙ sym (every_list_all f (records 16 b))
