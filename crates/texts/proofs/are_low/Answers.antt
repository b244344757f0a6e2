-- `texts::are_low` meets its contract: `all` is the library's `list_all`. Assumes nothing.
use Rattle.std.proofs.Common.{rules, tests, sym, ◌∙◌, ltb}
use Rattle.std.proofs.lemmas.Iterator.{YieldsList-from_slice}
use Rattle.std.proofs.lemmas.Iterator.Search.{all_from_yields_List}
use Rattle.texts.specs.Laws.Library.{every_list_all}
use Rattle.texts.specs.Text.{low, ascii}
use Rattle.texts.proofs.are_low.Goals as goal

pub returns : goal.returns
unfolding ascii low
returns c =
    let s = c.args.s.now in
    all_from_yields_List (λ b. ltb b 128) _ _ c.all.result c.all.ensures.ran (YieldsList-from_slice s cc) (λ x b q k. search (rules, tests)) ∙ sym (every_list_all (λ b. ltb b 128) s)
