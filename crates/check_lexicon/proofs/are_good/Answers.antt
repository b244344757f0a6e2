-- `check_lexicon::are_good` meets its contract: `all` is the library's `list_all`. Assumes nothing.
use Rattle.std.proofs.Common.{arith, rules, tests, refl, sym, ◌∙◌}
use Rattle.std.proofs.lemmas.Iterator.{YieldsList-from_range}
use Rattle.std.proofs.lemmas.Iterator.Search.{all_from_yields_List}
use Rattle.compiled_spec.specs.Lexicon.{is_good}
use Rattle.compiled_spec.proofs.Laws.Numbers.{below_all}
use Rattle.check_lexicon.proofs.are_good.Goals as goal

pub returns : goal.returns
returns c =
    let l = c.args.lexicon.now in
    let f = is_good l.table.bytes.now l.index.now l.entries.now in
    let n = c.len.result in
    all_from_yields_List f _ _ c.all.result c.all.ensures.ran (YieldsList-from_range 0 n n refl (omega arith)) (λ x b q k. search (rules, tests)) ∙ sym (below_all f n) ∙ rw c.len.ensures.0
