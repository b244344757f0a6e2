-- `read_settings::shown` meets its contract: 17, else what the definition shows. Assumes nothing.
use native.Mathlib.Omega.{arith}
use mathlib.Core.Bool.{true, false}
use mathlib.Core.Path.{◌≡◌, sym, ap, ◌∙◌}
use mir.Val.{to_z, of_z}
use mir.Syntax.{w32}
use borrow.Author.Tests.{eq-eqb, ne_eqb}
use Rattle.values.specs.Laws.Bits.{back}
use Rattle.values.specs.Values.{is_stretch, whole_in, real_in}
use Rattle.read_settings.specs.ReadSettings.{rack_of, shown, shown_if}
use Rattle.settings_spec.specs.Settings.{all_fit, pitch_of, stretch_of, level_of}
use Rattle.read_settings.proofs.shown.Goals as goal

pub returns-then-not-all_fit : goal.returns-then-not-all_fit
unfolding shown_if
returns-then-not-all_fit c =
    let b = c.args.settings.now in
    let v = c.args.version in
    let show = c.args.show in
    let a : all_fit v b ≡ false = sym c.all_fit.ensures ∙ c.if-not-all_fit.true in
    rw a

pub returns : goal.returns
unfolding shown_if shown rack_of
returns c =
    let if1 = c.if-not-all_fit in
    let is-stretch = c.is_stretch in
    let if2 = c.if-not-is_stretch in
    let pitch = c.pitch in
    let stretch = c.stretch in
    let real-in = c.real_in-stretch in
    let b = c.args.settings.now in
    let v = c.args.version in
    let show = c.args.show in
    let a : all_fit v b ≡ true = sym c.all_fit.ensures ∙ if1.false in
    let i : is_stretch show ≡ true = sym is-stretch.ensures ∙ if2.false in
    let p : to_z w32 (of_z w32 c.whole_in-pitch.result) ≡ whole_in (pitch_of b) = back c.whole_in-pitch.result (record { sfits = c.whole_in-pitch.type_inv }) ∙ c.whole_in-pitch.ensures ∙ ap whole_in pitch.ensures in
    let s : real-in.result ≡ real_in (stretch_of b) = real-in.ensures ∙ ap real_in stretch.ensures in
    let l : to_z w32 (of_z w32 c.whole_in-level.result) ≡ whole_in (level_of b) = back c.whole_in-level.result (record { sfits = c.whole_in-level.type_inv }) ∙ c.whole_in-level.ensures ∙ ap whole_in c.level.ensures in
    rw (a, i, eq-eqb v 2 (omega arith), p, s, l)

pub returns-then-not-is_stretch : goal.returns-then-not-is_stretch
unfolding shown_if
returns-then-not-is_stretch c =
    let if1 = c.if-not-all_fit in
    let b = c.args.settings.now in
    let v = c.args.version in
    let show = c.args.show in
    let a : all_fit v b ≡ true = sym c.all_fit.ensures ∙ if1.false in
    let i : is_stretch show ≡ false = sym c.is_stretch.ensures ∙ c.if-not-is_stretch.true in
    rw (a, i)

pub returns-then-version-ne2 : goal.returns-then-version-ne2
unfolding shown_if shown rack_of
returns-then-version-ne2 c =
    let if1 = c.if-not-all_fit in
    let is-stretch = c.is_stretch in
    let if2 = c.if-not-is_stretch in
    let pitch = c.pitch in
    let stretch = c.stretch in
    let b = c.args.settings.now in
    let v = c.args.version in
    let show = c.args.show in
    let a : all_fit v b ≡ true = sym c.all_fit.ensures ∙ if1.false in
    let i : is_stretch show ≡ true = sym is-stretch.ensures ∙ if2.false in
    let p : to_z w32 (of_z w32 c.whole_in-pitch.result) ≡ whole_in (pitch_of b) = back c.whole_in-pitch.result (record { sfits = c.whole_in-pitch.type_inv }) ∙ c.whole_in-pitch.ensures ∙ ap whole_in pitch.ensures in
    let s : c.real_in-stretch.result ≡ real_in (stretch_of b) = c.real_in-stretch.ensures ∙ ap real_in stretch.ensures in
    rw (a, i, ne_eqb v 2 c.if-version-ne2.true, p, s)
