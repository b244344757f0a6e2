-- `addtext::fill_and_tell` meets its contract: of the lines taken, those that use no new slot replaced an entry. Assumes nothing.
use Rattle.std.proofs.Common.{arith, ◌≡◌, ℕ, ◌-◌, ◌≤◌, List, Result, Ok, Err, sym, ap, ◌∙◌}
use Rattle.std.specs.Result.{IsErrAnd}
use Rattle.store_spec.specs.Store.{used, entries}
use Rattle.lines.specs.Lines.{lines}
use Rattle.answers.specs.declared.Answer.{Answer}
use Rattle.answers.specs.declared.AtLine.{AtLine}
use Rattle.answers.specs.declared.Previewed.{Previewed}
use Rattle.answers.specs.Told.{refusal_number, refused, accepted, told_lines, told_previewed}
use Rattle.addtext_spec.specs.Filling.{Filled, text_filled, line_entries, replacing, spare_filled}
use Rattle.addtext_spec.proofs.Laws.Took.{Told}
use Rattle.addtext_spec.proofs.Laws.Ends.{none_refused, told_stopped, spare_whole, told_whole, text_numbers}
use Rattle.addtext.proofs.fill_and_tell.Goals as goal

-- where every line was taken: what is told, and the numbers as they are read from spare and store
record Known (f : Filled) (n after before : ℕ) (store text : List ℕ) : Type 0 where
  told : accepted 0 n ≡ f.answer
  grows : before ≤ after
  few : after - before ≤ n
  newly : after - before ≡ used f.store - used store
  rest : n - (after - before) ≡ replacing (line_entries (lines text)) (entries store)

known : (f : Filled) (n after before : ℕ) (spare store text : List ℕ) → accepted 0 n ≡ f.answer → spare ≡ spare_filled f → after ≡ used spare → before ≡ used store
    → Told f.answer.value (replacing (line_entries (lines text)) (entries store)) (used store) (used f.store) → Known f n after before store text
known f n after before spare store text e s a b t =
    let l = ap (λ (x : Answer). x.value) e in
    let u : after ≡ used f.store = a ∙ ap used (s ∙ spare_whole f n e) in
    let g = t.grows in
    let h = t.few in
    record { told = e; grows = omega (arith, g, u, b); few = omega (arith, h, u, l, b); newly = rw (u, b); rest = rw (u, b, l) t.rest }

all_taken : (c : goal.After-used-2) → Known (text_filled c.args.table.now c.args.store.now c.args.text.now) c.in_ok-taken.taken c.used.result c.used-2.result c.args.store.now c.args.text.now
all_taken c =
    let a = c.args in
    let p = c.requires in
    let f = text_filled a.table.now a.store.now a.text.now in
    let n = c.in_ok-taken.taken in
    let e = sym (ap told_lines c.in_ok-taken.was) ∙ c.fill_spare.ensures.result_value in
    known f n c.used.result c.used-2.result c.fill_spare.new.spare a.store.now a.text.now e c.fill_spare.ensures.spare_after c.used.ensures.0 c.used-2.ensures.0
    (text_numbers a.table.now a.store.now a.text.now p.0 p.1 p.3 (none_refused f n e))

pub overflow_sub-newly : goal.overflow_sub-newly
overflow_sub-newly c = (all_taken c).grows

pub overflow_sub-replaced : goal.overflow_sub-replaced
overflow_sub-replaced c = (all_taken c).few

-- what a stop tells, handed on
told_as : (r : Result Previewed AtLine) (x : AtLine) → IsErrAnd r (λ y. y ≡ x) → told_previewed r ≡ refused (refusal_number x.refusal) x.line
told_as (Err y) x h = ap (λ (z : AtLine). refused (refusal_number z.refusal) z.line) h
told_as (Ok p) x h = absurd h

pub returns-in_err-taken-clause-result_value : goal.returns-in_err-taken-clause-result_value
returns-in_err-taken-clause-result_value c =
    let a = c.args in
    let x = c.in_err-taken.field-0.0 in
    let e = sym (ap told_lines c.in_err-taken.was) ∙ c.fill_spare.ensures.result_value in
    told_as c.from_residual.result x c.from_residual.ensures.1 ∙ e ∙ told_stopped (text_filled a.table.now a.store.now a.text.now) x.refusal x.line e a.store.now a.text.now

pub returns-clause-result_value : goal.returns-clause-result_value
returns-clause-result_value c =
    let a = c.args in
    let k = all_taken c in
    let newly = c.used.result - c.used-2.result in
    let n = c.in_ok-taken.taken in
    told_whole (text_filled a.table.now a.store.now a.text.now) n k.told a.store.now a.text.now newly (n - newly) k.newly k.rest
