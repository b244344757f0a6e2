-- `compiled::Lexicon::is_spoken` meets its contract: `all` is the library's `list_all`. Assumes nothing.
use Rattle.std.proofs.Common.{rules, tests, sym, ◌∙◌, ltb, ℕ}
use Rattle.std.proofs.lemmas.Iterator.{YieldsList-from_slice}
use Rattle.std.proofs.lemmas.Iterator.Search.{all_from_yields_List}
use Rattle.texts.specs.Laws.Library.{every_list_all}
use Rattle.compiled_spec.specs.Entries.{is_spoken, numbers_of}
use Rattle.compiled.proofs.sections.Lexicon.is_spoken.Goals as goal

pub returns : goal.returns
unfolding is_spoken
returns c =
    let ns = numbers_of c.args.s.now in
    let has = λ (n : ℕ). ltb n c.len-count.result in
    all_from_yields_List has _ _ c.all.result c.all.ensures.ran (YieldsList-from_slice ns cc) (λ x b q k. search (rules, tests)) ∙ sym (every_list_all has ns) ∙ rw c.len-count.ensures.0
