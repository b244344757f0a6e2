-- `lts::Trees::spell` meets its contract: the loop goes leftwards over the padded word, and stops behind its last "#". Assumes nothing.
use Rattle.std.proofs.Common.{◌≡◌, length}
use Rattle.lts_spec.specs.Letters.{padded}
use Rattle.lts.proofs.Stopping.{Left}
use Rattle.lts.proofs.Leftwards.{Spelling}
use Rattle.lts.proofs.Trees.spell.Given as goal

abbrev pub invariant-loop-i : goal.invariant-loop-i
invariant-loop-i l =
    let t = l.self in
    (l.text ≡ padded l.word) × (length l.list ≡ length l.initial.list) × Left l.word l.i × Spelling t.table.bytes.now t.index.now t.model.now l.text l.initial.list l.list (length l.word) l.i l.first
