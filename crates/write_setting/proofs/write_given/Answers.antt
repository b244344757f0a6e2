-- `write_setting::write_given` meets its contract: the bits of an accepted value are the bits it was made of. Assumes nothing.
use mathlib.Core.Path.{ap, ◌∙◌}
use Rattle.write_setting.specs.WriteSetting.{write_setting, settings_after}
use Rattle.write_setting.specs.Given.{given_after_lem}
use Rattle.write_setting.proofs.write_given.Goals as goal

pub returns : goal.returns
returns c =
    let fits = c.ranges in
    let setting-of = c.setting_of in
    let write-setting = c.write_setting in
    let a = c.args in
    let b = a.settings.now in
    let s = setting-of.ensures in
    let w = write-setting.ensures in
    record {
      result_value = w.result_value ∙ ap (write_setting a.version b a.name.now) s;
      settings_after = w.settings_after ∙ ap (settings_after a.version b a.name.now) s ∙ given_after_lem a.version b a.name.now a.kind a.bits fits.bits.fits;
    }
