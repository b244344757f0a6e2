-- `lts::Trees::spell_out` meets its contract: the cells at the end of the list are copied to the front of the output. Assumes nothing.
use Rattle.std.proofs.Common.{ℕ, ◌≡◌, ◌*◌, arith, rules, ap, ◌∙◌, List, length, Some}
use borrow.Author.Tests.{le-ltb}
use Rattle.records.specs.Records.{part_from}
use Rattle.lts_spec.specs.Letters.{letters, stopped}
use Rattle.lts.proofs.Found.{Found, found}
use Rattle.lts.proofs.Trees.spell_out.Goals as goal

pub returns-clause-out_after : goal.returns-clause-out_after
returns-clause-out_after c =
    let a = c.args in
    let t = a.self.now in
    let p = c.spell in
    let s = c.in_ok-first.field-0 in
    let is : p.result ≡ Some s = search rules in
    let f : Found (letters t.table.bytes.now t.index.now t.model.now a.word.now) (stopped a.word.now) s p.new.list =
    found _ _ a.list.now p.new.list p.result s c.requires.1 (omega (arith, p.auto.list, c.requires.1)) p.ensures is in
    let cells = part_from (16 * s.first) p.new.list ∙ f.cells in
    let room = le-ltb (length a.out.now) (16 * length f.phones) (omega (arith, ap (λ (l : List ℕ). length l) cells, f.size)) in
    rw (f.is, room) (rw (c.copy.ensures, cells, f.size))
