-- `lts::put_leaf` meets its contract: nothing, two cells or one before `at`, by the definition's tests. Assumes nothing.
use Rattle.std.proofs.Common.{ℕ, ◌≡◌, ◌+◌, ◌-◌, arith, rules, tests, refl, sym, ap, ◌∙◌, List, length, take, drop, length-take, length-drop, nat_eq}
use Rattle.std.proofs.lemmas.Iterator.{YieldsList-from_slice}
use Rattle.std.proofs.lemmas.Iterator.Search.{position_from_yields_List}
use Rattle.std.specs.List.{position}
use Rattle.texts.specs.Lists.{place}
use Rattle.texts.specs.Choice.{cases, never}
use Rattle.texts.specs.Text.{is, bytes, same, same_true, eq_same, ne_same}
use Rattle.texts.specs.Laws.Library.{position_place}
use Rattle.records.specs.Records.{put_record, part_from}
use Rattle.cells.specs.Cells.{cell}
use Rattle.lts_spec.proofs.Letters.{spoken_none, spoken_two, spoken_one}
use Rattle.lts.proofs.Put.{puts_none, puts_one, puts_two}
use Rattle.lts.proofs.put_leaf.Goals as goal

-- two texts are the same either way
turned : (a b : List ℕ) → same b a ≡ same a b
turned a b = cases (same a b) (λ e. eq_same b a (sym (same_true a b e)) ∙ sym e) (λ e. ne_same b a (λ q. never (same a b) (eq_same a b (sym q)) e) ∙ sym e)

pub returns-then-is_epsilon : goal.returns-then-is_epsilon
returns-then-is_epsilon c =
    let x = c.args.phone.now in
    rw (spoken_none x (turned _ x ∙ sym c.is_epsilon.ensures ∙ c.if-is_epsilon.true)) (puts_none c.args.list.now c.args.at)

pub returns-in_default : goal.returns-in_default
unfolding is
returns-in_default c =
    let a = c.args in
    let x = a.phone.now in
    let e : c.position.result ≡ position (is 45) x =
    position_from_yields_List (λ b. nat_eq b 45) _ _ c.position.result c.position.ensures.ran (YieldsList-from_slice x cc) (λ b t q k. search (rules, tests)) in
    let p = rw c.in_default.is at (position_place (is 45) x c.position.result (place (is 45) x) (length x) e refl refl) in
    rw (spoken_one x (turned _ x ∙ sym c.is_epsilon.ensures ∙ c.if-is_epsilon.false) (omega arith)) (puts_one x a.list.now c.put_cell.new.list a.at (omega arith) (omega arith) (omega arith) c.put_cell.ensures)

pub returns : goal.returns
unfolding is
returns c =
    let a = c.args in
    let x = a.phone.now in
    let d = c.in-Some.dash in
    let e : c.position.result ≡ position (is 45) x =
    position_from_yields_List (λ b. nat_eq b 45) _ _ c.position.result c.position.ensures.ran (YieldsList-from_slice x cc) (λ b t q k. search (rules, tests)) in
    let p = rw c.in-Some.is at (position_place (is 45) x c.position.result (place (is 45) x) (length x) e refl refl) in
    let right = c.put_cell-2.ensures ∙ ap (λ (s : List ℕ). put_record 16 a.list.now (a.at - 1) (cell s)) (part_from (d + 1) x) in
    rw (spoken_two x (turned _ x ∙ sym c.is_epsilon.ensures ∙ c.if-is_epsilon.false) (omega arith), ← p.0)
    (puts_two (take d x) (drop (d + 1) x) a.list.now c.put_cell-2.new.list c.put_cell-3.new.list a.at
    (simp length-take (omega arith)) (simp length-drop (omega arith)) (omega arith) (omega arith) right c.put_cell-3.ensures)
