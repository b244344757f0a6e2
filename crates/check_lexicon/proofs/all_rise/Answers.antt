-- `check_lexicon::all_rise` meets its contract: `all` is the library's `list_all`. Assumes nothing.
use Rattle.std.proofs.Common.{rules, tests, refl, sym, ◌∙◌, ℕ, ◌-◌}
use Rattle.std.proofs.lemmas.Iterator.{YieldsList-from_range}
use Rattle.std.proofs.lemmas.Iterator.Search.{all_from_yields_List}
use Rattle.compiled_spec.specs.Lexicon.{rises}
use Rattle.compiled_spec.proofs.Laws.Numbers.{before_all}
use Rattle.check_lexicon.proofs.all_rise.Goals as goal

pub returns : goal.returns
returns c =
    let l = c.args.lexicon.now in
    let f = rises l.index.now l.entries.now in
    let n = c.len.result in
    all_from_yields_List (λ (i : ℕ). f (i - 1)) _ _ c.all.result c.all.ensures.ran (YieldsList-from_range 1 n (n - 1) refl refl) (λ x b q k. search (rules, tests)) ∙ sym (before_all f (n - 1)) ∙ rw c.len.ensures.0
