-- `slots::is_folded` meets its contract: `all` is the library's `list_all`. Assumes nothing.
use Rattle.std.proofs.Common.{rules, tests, sym, ◌∙◌}
use Rattle.std.proofs.lemmas.Iterator.{YieldsList-from_slice}
use Rattle.std.proofs.lemmas.Iterator.Search.{all_from_yields_List}
use Rattle.texts.specs.Laws.Library.{every_list_all}
use Rattle.slots_spec.specs.Slot.{is_folded, is_small}
use Rattle.slots.proofs.is_folded.Goals as goal

pub returns : goal.returns
unfolding is_folded is_small
returns c =
    let w = c.args.word.now in
    all_from_yields_List is_small _ _ c.all.result c.all.ensures.ran (YieldsList-from_slice w cc) (λ x b q k. search (rules, tests)) ∙ sym (every_list_all is_small w)
