-- `entryline::split_at_colon` meets its contract: `position` is the library's. Assumes nothing.
use Rattle.std.proofs.Common.{rules, tests, arith, ◌≡◌, ◌≤◌, ◌<◌, ◌+◌, ◌∙◌, sym, ap, List, ℕ, Bool, Option, Some, None, length, nat_eq, ltb, ltb-true, refl}
use Rattle.std.proofs.lemmas.Iterator.{YieldsList-from_slice}
use Rattle.std.proofs.lemmas.Iterator.Search.{position_from_yields_List}
use Rattle.std.specs.Option.{unwrap_or}
use Rattle.std.specs.List.{position, position_or_len}
use Rattle.records.specs.Records.{part_from}
use Rattle.texts.specs.Choice.{cases}
use Rattle.texts.specs.Lists.{place}
use Rattle.texts.specs.Text.{is}
use Rattle.texts.specs.Laws.Library.{place_or_len, place_unwrap}
use Rattle.entryline.proofs.split_at_colon.Goals as goal

module _ (f : ℕ → Bool) (s : List ℕ) (o : Option ℕ) (e : o ≡ position f s) where
  none_at : o ≡ None → length s ≤ place f s
  none_at n = let u = ap (λ r. unwrap_or r (length s)) (sym n ∙ e) ∙ place_unwrap f s in omega arith

  some_at : (k : ℕ) → o ≡ Some k → (k ≡ place f s) × (k < length s)
  some_at k n =
      let u = ap (λ r. unwrap_or r (length s)) (sym n ∙ e) ∙ place_unwrap f s in
      let p = place_or_len f s in (
        u,
        cases (ltb (position_or_len f s) (length s))
            (λ l. let z = ltb-true (position_or_len f s) (length s) l in omega arith)
            (λ l. let z : Some k ≡ None = sym n ∙ e ∙ rw l in cc),
      )

pub returns-in_err-at : goal.returns-in_err-at
unfolding is
returns-in_err-at c =
    let s = c.args.line.now in
    let e = position_from_yields_List (λ x. nat_eq x 58) _ _ c.position.result c.position.ensures.ran (YieldsList-from_slice s cc) (λ x b q k. search (rules, tests)) in
    rw c.from_residual.ensures (none_at (λ x. nat_eq x 58) s c.position.result e c.in_err-at.was)

pub returns : goal.returns
unfolding is
returns c =
    let s = c.args.line.now in
    let e = position_from_yields_List (λ x. nat_eq x 58) _ _ c.position.result c.position.ensures.ran (YieldsList-from_slice s cc) (λ x b q k. search (rules, tests)) in
    let a = some_at (λ x. nat_eq x 58) s c.position.result e c.in_ok-at.at c.in_ok-at.was in
    rw (← a.0) (a.1, refl, part_from (c.in_ok-at.at + 1) s)
