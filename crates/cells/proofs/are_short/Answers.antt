-- `cells::are_short` meets its contract: a list's cells are its whole chunks. Assumes nothing.
use Rattle.std.proofs.Common.{rules, tests, sym, ◌∙◌}
use Rattle.std.proofs.lemmas.Iterator.{YieldsList-from_slice}
use Rattle.std.proofs.lemmas.Iterator.Search.{all_from_yields_List}
use Rattle.texts.specs.Laws.Library.{every_list_all}
use Rattle.records.specs.Records.{records}
use Rattle.records.specs.Laws.Chunks.{chunks_records}
use Rattle.cells.specs.Cells.{short_cell, short_phones}
use Rattle.cells.proofs.are_short.Goals as goal

pub returns : goal.returns
unfolding short_cell short_phones
returns c =
    let s = c.args.list.now in
    all_from_yields_List short_cell _ _ c.all.result c.all.ensures.ran
    (YieldsList-from_slice (records 16 s) (rw (← chunks_records 16 s) cc)) (λ x b q k. search (rules, tests))
    ∙ sym (every_list_all short_cell (records 16 s))
