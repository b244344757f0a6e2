-- `cells::phone` meets its contract: the 16 bytes cut out are the list's record i. Assumes nothing.
use Prim.Native.Nat.{ℕ}
use mathlib.Core.Path.{sym, ap, ◌∙◌}
use mathlib.Core.List.{List}
use Rattle.records.specs.Records.{part_record, record_of_lem}
use Rattle.cells.specs.Cells.{text, phone_at}
use Rattle.cells.proofs.phone.Goals as goal

pub returns : goal.returns
returns c =
    let s = c.args.list.now in
    let i = c.args.i in
    c.text.ensures ∙ ap (λ (c : List ℕ). text c) (part_record 16 i s c.requires ∙ record_of_lem 16 i s c.requires) ∙ sym (phone_at s i c.requires)
