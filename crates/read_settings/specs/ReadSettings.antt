-- 02, S-12: read settings. A read shows, in this order, the settings that the reader's version knows, and the rack's stretch last.
-- Assumes nothing.
use Rattle.std.specs.Prelude.{ℕ, not, ◌&&◌, List, eqb, pos, Float}
use Rattle.std.specs.Float.{binary32}
use Rattle.std.specs.Float.Ieee.{mul}
use Rattle.texts.specs.Choice.{when◌then◌else◌}
use Rattle.answers.specs.declared.Settings.{Settings}
use Rattle.answers.specs.Told.{no_settings, showing}
use Rattle.values.specs.Values.{is_stretch, whole_in, real_in}
use Rattle.settings_spec.specs.Settings.{pitch_of, stretch_of, level_of, all_fit, store_refusal}

-- the rack's stretch is the record's times the show's, rounded once
unfoldable pub rack_of : List ℕ → Float → Float
rack_of b show = mul binary32 (real_in (stretch_of b)) show

-- what version v shows
unfoldable pub shown : ℕ → List ℕ → Float → Settings
shown v b show =
    when eqb v 2
    then showing 3 (whole_in (pitch_of b)) (real_in (stretch_of b)) (whole_in (level_of b)) (rack_of b show)
    else showing 2 (whole_in (pitch_of b)) (real_in (stretch_of b)) (pos 0) (rack_of b show)

-- behind 2, 15 and 16 comes 17: a known setting or the show's stretch of the wrong kind or range
unfoldable pub shown_if : ℕ → List ℕ → Float → Settings
shown_if v b show = when not (all_fit v b && is_stretch show) then no_settings 17 else shown v b show

unfoldable pub read_settings : ℕ → List ℕ → Float → Settings
read_settings v b show = when eqb (store_refusal v b) 0 then shown_if v b show else no_settings (store_refusal v b)
