-- `slots::are_tidy` meets its contract: `chunks_exact` gives the records. Assumes nothing.
use Rattle.std.proofs.Common.{arith, rules, tests, sym, ◌∙◌}
use Rattle.std.proofs.lemmas.Iterator.Search.{all_from_yields_List}
use Rattle.texts.specs.Laws.Library.{every_list_all}
use Rattle.records.specs.Records.{records}
use Rattle.slots_spec.specs.Laws.Parts.{is_tidy}
use Rattle.slots.proofs.Chunks.{chunks_yield}
use Rattle.slots.proofs.are_tidy.Goals as goal

pub returns : goal.returns
returns c =
    let b = c.args.list.now in
    all_from_yields_List is_tidy _ _ c.all.result c.all.ensures.ran (chunks_yield 16 (omega arith) b c.chunks_exact.ensures.rest c.chunks_exact.ensures.size) (λ x b q k. search (rules, tests)) ∙ sym (every_list_all is_tidy (records 16 b))
