-- `write_setting::write_setting` leaves the store as it was where its check refuses it. Assumes nothing.
use Rattle.write_setting.specs.Laws.Ways.{write_refused}
use Rattle.write_setting.proofs.write_setting.Goals as goal

pub returns-in_err-checked-clause-settings_after : goal.returns-in_err-checked-clause-settings_after
returns-in_err-checked-clause-settings_after c =
    let a = c.args in
    (write_refused a.version a.settings.now a.name.now a.value c.in_err-checked.field-0.0 c.in_err-checked.ensures).1
