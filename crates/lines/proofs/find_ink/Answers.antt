-- `lines::find_ink` meets its contract: `position` is the library's. Assumes nothing.
use Rattle.std.proofs.Common.{rules, tests, ◌∙◌, ap, length}
use Rattle.std.proofs.lemmas.Iterator.{YieldsList-from_slice}
use Rattle.std.proofs.lemmas.Iterator.Search.{position_from_yields_List}
use Rattle.std.specs.Option.{unwrap_or}
use Rattle.std.specs.Prelude.{not}
use Rattle.texts.specs.Laws.Library.{place_unwrap}
use Rattle.texts.specs.Text.{blank}
use Rattle.lines.specs.Lines.{ink}
use Rattle.lines.proofs.find_ink.Goals as goal

pub returns : goal.returns
unfolding ink
returns c =
    let s = c.args.s.now in
    let e = position_from_yields_List (λ x. not (blank x)) _ _ c.position.result c.position.ensures.ran (YieldsList-from_slice s cc) (λ x b q k. search (rules, tests)) in
    c.unwrap_or.ensures ∙ ap (λ o. unwrap_or o (length s)) e ∙ place_unwrap (λ x. not (blank x)) s
