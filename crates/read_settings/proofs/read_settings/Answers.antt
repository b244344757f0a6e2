-- `read_settings::read_settings` meets its contract: what the store's check refuses, else what is shown. Assumes nothing.
use Rattle.std.proofs.Common.{rules, ◌≡◌, ap, ◌∙◌}
use Rattle.std.specs.Prelude.{Err}
use Rattle.answers.specs.Told.{told_shown}
use Rattle.sound_settings.specs.Laws.Checked.{none_refused}
use Rattle.read_settings.specs.Laws.Ways.{read_refused, read_accepted}
use Rattle.read_settings.proofs.read_settings.Goals as goal

pub returns-in_err-checked : goal.returns-in_err-checked
returns-in_err-checked c =
    let a = c.args in
    let e : c.from_residual.result ≡ Err c.in_err-checked.field-0.0 = search rules in
    ap told_shown e ∙ read_refused a.version a.settings.now a.show c.in_err-checked.field-0.0 c.in_err-checked.ensures

pub returns : goal.returns
returns c =
    let a = c.args in
    c.shown.ensures ∙ read_accepted a.version a.settings.now a.show (none_refused a.version a.settings.now c.in_ok-checked.ensures)
