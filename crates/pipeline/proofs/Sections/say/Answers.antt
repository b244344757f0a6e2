-- `pipeline::Sections::say` meets its contract: phones are put on the sheet. Assumes nothing.
use Rattle.std.proofs.Common.{ap, ◌∙◌, ◌*◌, take}
use Rattle.pipeline.proofs.Phones.{said_cells}
use Rattle.pipeline.proofs.Sections.say.Goals as goal

pub returns : goal.returns
returns c =
    let i = c.in_ok-p in
    let h = said_cells c.args.self.now c.args.store.now c.args.word.now c.args.tag.now _ c.args.sheet.now _ i.p c.requires.0 i.ensures.result_value (ap (take (16 * i.p.phones)) i.ensures.room_after) in
    record { result_value = c.put.ensures.result_value ∙ h.0; sheet_after = c.put.ensures.sheet_after ∙ h.1 }
