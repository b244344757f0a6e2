-- `entryline::may_add_fields` meets its contract: the iterator gives the fields. Assumes nothing.
use Rattle.std.proofs.Common.{rules, tests, sym, ◌∙◌}
use Rattle.std.proofs.lemmas.Iterator.Search.{all_from_yields_List}
use Rattle.std.proofs.lemmas.Iterator.Consumers.{YieldsList-from_first}
use Rattle.texts.specs.Laws.Library.{every_list_all}
use Rattle.lines.specs.Lines.{fields}
use Rattle.lines.specs.Left.{fields_left}
use Rattle.lexicon_spec.specs.Adding.{may_add}
use Rattle.entryline.proofs.may_add_fields.Goals as goal

pub returns : goal.returns
returns c =
    let fs = fields c.args.s.now in
    let f = may_add c.args.table.now in
    all_from_yields_List f c.all.new.self _ c.all.result c.all.ensures.ran (YieldsList-from_first (λ x. x.now) fields_left {s = c.of.result} fs c.of.ensures) (λ x b q k. search (rules, tests)) ∙ sym (every_list_all f fs)
