-- `addtext::fill_and_take` meets its contract: the store gets the spare's bytes, the count one higher, only where no line stopped it. Assumes nothing.
use Rattle.std.proofs.Common.{◌≡◌, ℕ, ◌+◌, List, length, sym, ap, ◌∙◌}
use Rattle.store_spec.specs.Store.{count, with_count}
use Rattle.store_spec.proofs.Sound.{sound}
use Rattle.store_spec.proofs.Result.{long}
use Rattle.answers.specs.Told.{accepted, told_lines, written}
use Rattle.addtext_spec.specs.Filling.{Filled, text_filled, spare_filled}
use Rattle.addtext_spec.proofs.Laws.Ends.{none_refused, spare_whole, text_grown}
use Rattle.addtext.proofs.fill_and_take.Goals as goal

-- a spare with every line taken, and what the store is after it
module _ (store : List ℕ) (f : Filled) (n : ℕ) (e : accepted 0 n ≡ f.answer) (spare : List ℕ) (s : spare ≡ spare_filled f) (k : count f.store ≡ count store) where
  spare_is_lem : spare ≡ f.store
  spare_is_lem = s ∙ spare_whole f n e

  seen : count spare ≡ count store
  seen = ap count spare_is_lem ∙ k

  took : with_count spare (count spare + 1) ≡ written f.answer store (with_count f.store (count store + 1))
  took = rw (← e, seen, spare_is_lem)

pub take_spare-requires : goal.take_spare-requires
take_spare-requires c =
    let a = c.args in
    let p = c.requires in
    let f = text_filled a.table.now a.store.now a.text.now in
    let n = c.in_ok-taken.taken in
    let e = sym (ap told_lines c.in_ok-taken.was) ∙ c.fill_spare.ensures.result_value in
    let k = (text_grown a.table.now a.store.now a.text.now p.0 p.1 p.4 (none_refused f n e)).count in (
      long (length a.store.now) (sound a.store.now p.1).size,
      c.fill_spare.auto.spare ∙ p.2,
      λ z. p.3 (sym (seen a.store.now f n e c.fill_spare.new.spare c.fill_spare.ensures.spare_after k) ∙ z),
    )

pub returns-clause-store_after : goal.returns-clause-store_after
returns-clause-store_after c =
    let a = c.args in
    let p = c.requires in
    let f = text_filled a.table.now a.store.now a.text.now in
    let n = c.in_ok-taken.taken in
    let e = sym (ap told_lines c.in_ok-taken.was) ∙ c.fill_spare.ensures.result_value in
    let k = (text_grown a.table.now a.store.now a.text.now p.0 p.1 p.4 (none_refused f n e)).count in
    c.take_spare.ensures ∙ took a.store.now f n e c.fill_spare.new.spare c.fill_spare.ensures.spare_after k
