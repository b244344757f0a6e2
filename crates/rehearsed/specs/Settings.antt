-- 02, S-12: cases of read settings and write setting, by computing the definitions.
-- Assumes nothing.
use Rattle.std.specs.Prelude.{ℕ, ◌≡◌, refl, false, List, [], ◌∷◌, ◌++◌, replicate, pos, negsuc, Float}
use Rattle.std.specs.Float.{nan, fin}
use Rattle.std.specs.Float.Ieee.{mul, le, lt, eq, of_bits, of_fields, odd, round, units, size}
use Rattle.std.specs.Int.Count.{count_trailing_zeros}
use Rattle.texts.specs.Lists.{some}
use Rattle.texts.specs.Text.{bytes, same, distinct}
use Rattle.records.specs.Fields.{u16_at, u32_at}
use Rattle.records.specs.Chain.{chain}
use Rattle.answers.specs.Told.{no_settings, showing, refused, accepted}
use Rattle.values.specs.declared.Setting.TheVariants.{Whole, Real}
use Rattle.values.specs.Values.{quarter, one, setting_of, whole_of, known_as}
use Rattle.settings_spec.specs.Settings.{is_length, is_version, next, name_at, is_record, walks, order, is_sound, named, record_of, value_of, pitch_of, stretch_of, level_of, all_fit, store_refusal}
use Rattle.read_settings.specs.ReadSettings.{rack_of, shown, shown_if, read_settings}
use Rattle.write_setting.specs.WriteSetting.{written_if, write_setting}

-- a store of no records, and one of one record
abbrev pub empty : ℕ → List ℕ
empty version = version ∷ 0 ∷ replicate 30 0

abbrev pub single : ℕ → ℕ → List ℕ → ℕ → List ℕ → List ℕ
single version following name kind value = version ∷ 0 ∷ 1 ∷ 0 ∷ replicate 28 0 ++ (following ∷ 0 ∷ name ++ kind ∷ value ++ replicate 9 0)

-- a length and a 15-byte name field
abbrev pub pitch_name : List ℕ
pitch_name = 5 ∷ bytes "pitch" ++ replicate 10 0

abbrev pub stretch_name : List ℕ
stretch_name = 7 ∷ bytes "stretch" ++ replicate 8 0

-- 1.5, 0.75 and 0.5
abbrev pub three_halves : Float
three_halves = fin false 3 (negsuc 0)

abbrev pub three_quarters : Float
three_quarters = fin false 3 (negsuc 1)

abbrev pub half : Float
half = fin false 1 (negsuc 0)

pub settings_rehearsed : (read_settings 1 (replicate 31 1) one ≡ no_settings 2)
    × (read_settings 3 (empty 1) one ≡ no_settings 15)
    × (read_settings 1 (empty 0) one ≡ no_settings 15)
    × (read_settings 1 (empty 2) one ≡ showing 2 (pos 100) one (pos 0) one)
    × (read_settings 2 (empty 1) quarter ≡ showing 3 (pos 100) one (pos 80) quarter)
    × (read_settings 1 (empty 1) nan ≡ no_settings 17)
    × (read_settings 1 (single 1 0 stretch_name 2 (0 ∷ 0 ∷ 192 ∷ 63 ∷ [])) half ≡ showing 2 (pos 100) three_halves (pos 0) three_quarters)
    × (read_settings 1 (single 1 0 stretch_name 2 (0 ∷ 0 ∷ 192 ∷ 127 ∷ [])) one ≡ no_settings 17)
    × (read_settings 1 (single 1 1 stretch_name 2 (0 ∷ 0 ∷ 192 ∷ 63 ∷ [])) one ≡ no_settings 16)
    × (read_settings 1 (single 1 2 stretch_name 2 (0 ∷ 0 ∷ 192 ∷ 63 ∷ [])) one ≡ no_settings 16)
    × (read_settings 1 (single 1 0 stretch_name 3 (0 ∷ 0 ∷ 192 ∷ 63 ∷ [])) one ≡ no_settings 16)
    × (read_settings 1 (single 1 0 stretch_name 1 (0 ∷ 0 ∷ 192 ∷ 63 ∷ [])) one ≡ no_settings 17)
    × (write_setting 1 (single 1 0 pitch_name 1 (100 ∷ 0 ∷ 0 ∷ 0 ∷ [])) (bytes "pitch") (Whole (pos 400)) ≡ accepted 0 0)
    × (write_setting 1 (single 1 0 pitch_name 1 (100 ∷ 0 ∷ 0 ∷ 0 ∷ [])) (bytes "pitch") (Whole (pos 401)) ≡ refused 17 0)
    × (write_setting 1 (single 1 0 pitch_name 1 (1 ∷ 0 ∷ 0 ∷ 0 ∷ [])) (bytes "pitch") (Whole (pos 400)) ≡ refused 17 0)
    × (write_setting 1 (single 1 0 pitch_name 1 (100 ∷ 0 ∷ 0 ∷ 0 ∷ [])) (bytes "level") (Whole (pos 50)) ≡ refused 16 0)
    × (write_setting 1 (single 1 0 pitch_name 1 (100 ∷ 0 ∷ 0 ∷ 0 ∷ [])) (bytes "stretch") (Real one) ≡ refused 16 0)
unfolding mul le lt eq of_bits of_fields odd round units size count_trailing_zeros some same distinct u16_at u32_at chain setting_of whole_of known_as is_length is_version next name_at is_record walks order is_sound named record_of value_of pitch_of stretch_of level_of all_fit store_refusal rack_of shown shown_if read_settings written_if write_setting
settings_rehearsed = (refl, refl, refl, refl, refl, refl, refl, refl, refl, refl, refl, refl, refl, refl, refl, refl, refl)
