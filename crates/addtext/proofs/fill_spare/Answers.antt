-- `addtext::fill_spare` meets its contract: the spare is the store when the lines are added to it, and a stop sets its count. Assumes nothing.
use Rattle.std.proofs.Common.{arith, ◌≡◌, ℕ, true, false, List, Result, Ok, Err, length, sym, ap, ◌∙◌}
use Rattle.std.specs.Result.{is_err}
use Rattle.answers.specs.declared.AtLine.{AtLine}
use Rattle.answers.specs.Told.{told_lines}
use Rattle.store_spec.specs.Store.{with_count, largest}
use Rattle.store_spec.proofs.Sound.{sound}
use Rattle.store_spec.proofs.Result.{long}
use Rattle.addtext_spec.specs.Filling.{Filled, text_filled, spare_filled}
use Rattle.addtext_spec.proofs.Laws.Ends.{spare_stopped, spare_whole}
use Rattle.addtext.proofs.fill_spare.Goals as goal

-- where a line stopped the text, and where none did
stopped : (r : Result ℕ AtLine) (f : Filled) → told_lines r ≡ f.answer → is_err r ≡ true → with_count f.store largest ≡ spare_filled f
stopped (Err x) f e b = spare_stopped f x.refusal x.line e
stopped (Ok n) f e b = cc

whole : (r : Result ℕ AtLine) (f : Filled) → told_lines r ≡ f.answer → is_err r ≡ false → f.store ≡ spare_filled f
whole (Err x) f e b = cc
whole (Ok n) f e b = sym (spare_whole f n e)

pub set_count-requires : goal.set_count-requires
set_count-requires c =
    let b = c.args.store.now in
    let l = long (length b) (sound b c.requires.1).size in
    let p = c.requires.2 in
    omega (arith, l, p, c.add_lines-filled.auto.store, c.copy.auto.dst)

pub returns-then-is_err-clause-spare_after : goal.returns-then-is_err-clause-spare_after
returns-then-is_err-clause-spare_after c =
    let q = ap (λ (s : List ℕ). text_filled c.args.table.now s c.args.text.now) c.copy.ensures in
    let f = text_filled c.args.table.now c.args.store.now c.args.text.now in
    let e = c.add_lines-filled.ensures.result_value ∙ ap (λ (g : Filled). g.answer) q in
    let m = c.add_lines-filled.ensures.store_after ∙ ap (λ (g : Filled). g.store) q in
    c.set_count.ensures ∙ rw (c.largest.ensures, m) (stopped c.add_lines-filled.result f e (sym c.is_err.ensures.value ∙ c.if-is_err.true))

pub returns-else-is_err-clause-spare_after : goal.returns-else-is_err-clause-spare_after
returns-else-is_err-clause-spare_after c =
    let q = ap (λ (s : List ℕ). text_filled c.args.table.now s c.args.text.now) c.copy.ensures in
    let f = text_filled c.args.table.now c.args.store.now c.args.text.now in
    let e = c.add_lines-filled.ensures.result_value ∙ ap (λ (g : Filled). g.answer) q in
    let m = c.add_lines-filled.ensures.store_after ∙ ap (λ (g : Filled). g.store) q in
    m ∙ whole c.add_lines-filled.result f e (sym c.is_err.ensures.value ∙ c.if-is_err.false)
