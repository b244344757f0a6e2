-- `language::both_accept` meets its contract: no start, the first machine, the second. Assumes nothing.
use Rattle.std.proofs.Common.{sym, ◌∙◌}
use Rattle.std.proofs.lemmas.Iterator.{YieldsList-from_slice}
use Rattle.std.proofs.lemmas.Iterator.Adapters.{YieldsList-from_rev_slice}
use Rattle.language.proofs.both_accept.Goals as goal

pub returns-then-accepts : goal.returns-then-accepts
returns-then-accepts c =
    let s = c.args.word.now in
    let f = c.accepts.ensures s (YieldsList-from_slice s c.iter.ensures.rest).runs in
    let b = c.accepts-then-accepts.ensures _ (YieldsList-from_rev_slice s cc).runs in
    rw (sym c.step.ensures ∙ c.in-Some.is, sym f ∙ c.if-accepts.true) b

pub returns-else-accepts : goal.returns-else-accepts
returns-else-accepts c =
    let s = c.args.word.now in
    let f = c.accepts.ensures s (YieldsList-from_slice s c.iter.ensures.rest).runs in
    rw (sym c.step.ensures ∙ c.in-Some.is, sym f ∙ c.if-accepts.false) c.if-accepts.false
