-- `records::are_eights_zero` meets its contract: the bytes of its whole eights are zero, and the last eight bytes decide. Assumes nothing.
use Rattle.std.proofs.Common.{◌≡◌, ◌-◌, ◌*◌, ◌/◌, ℕ, rules, tests, arith, sym, ap, ◌∙◌, length, eqb}
use Rattle.std.proofs.lemmas.Iterator.{YieldsList-from_slice}
use Rattle.std.proofs.lemmas.Iterator.Search.{all_from_yields_List}
use Rattle.std.specs.List.{list_all}
use Rattle.std.specs.Simd.{first_chunks}
use Rattle.records.specs.Laws.Zeros.{is_zero, zeros_end, eights_zero, eights_stop}
use Rattle.records.proofs.are_eights_zero.Goals as goal

pub returns-then-all : goal.returns-then-all
returns-then-all c =
    let s = c.args.s.now in
    let t : c.all.result ≡ list_all is_zero (first_chunks 8 (length s / 8) s) =
    all_from_yields_List is_zero _ _ c.all.result c.all.ensures.ran (YieldsList-from_slice _ cc) (λ x b q k. search (rules, tests)) in
    let z = eights_zero (length s / 8) s (sym t ∙ c.if-all.true) in
    ap (λ (n : ℕ). eqb n 0) c.u64_in.ensures ∙ zeros_end s (8 * (length s / 8)) (length s - 8) z (omega arith) (omega arith)

pub returns-else-all : goal.returns-else-all
returns-else-all c =
    let s = c.args.s.now in
    let t : c.all.result ≡ list_all is_zero (first_chunks 8 (length s / 8) s) =
    all_from_yields_List is_zero _ _ c.all.result c.all.ensures.ran (YieldsList-from_slice _ cc) (λ x b q k. search (rules, tests)) in
    c.if-all.false ∙ sym (eights_stop (length s / 8) s (sym t ∙ c.if-all.false))
