-- `cells::are_ascii` meets its contract: a list's phones are the texts of its cells. Assumes nothing.
use Rattle.std.proofs.Common.{refl, rules, tests, sym, ◌∙◌}
use Rattle.std.proofs.lemmas.Iterator.{YieldsList-from_slice}
use Rattle.std.proofs.lemmas.Iterator.Search.{all_from_yields_List}
use Rattle.texts.specs.Text.{ascii}
use Rattle.texts.specs.Laws.Library.{every_list_all, every_map}
use Rattle.records.specs.Records.{records}
use Rattle.records.specs.Laws.Chunks.{chunks_records}
use Rattle.cells.specs.Cells.{text, phones_of, ascii_phones}
use Rattle.cells.proofs.are_ascii.Goals as goal

pub returns : goal.returns
unfolding phones_of ascii_phones
returns c =
    let s = c.args.list.now in
    all_from_yields_List (λ b. ascii (text b)) _ _ c.all.result c.all.ensures.ran
    (YieldsList-from_slice (records 16 s) (rw (← chunks_records 16 s) cc)) (λ x b q k. search (rules, tests))
    ∙ sym (every_map ascii text (λ b. ascii (text b)) (λ b. refl) (records 16 s) ∙ every_list_all (λ b. ascii (text b)) (records 16 s))
