-- 02, S-12: write setting. A write sets only the four value bytes of the named setting's record.
-- Assumes nothing.
use Rattle.std.specs.Prelude.{ℕ, not, ◌&&◌, List, eqb}
use Rattle.texts.specs.Choice.{when◌then◌else◌}
use Rattle.records.specs.Fields.{put32}
use Rattle.answers.specs.declared.Answer.{Answer}
use Rattle.answers.specs.Told.{refused, accepted, written}
use Rattle.values.specs.declared.Setting.{Setting}
use Rattle.values.specs.Values.{fits_known as fits, known_as, is_known, bits_of}
use Rattle.settings_spec.specs.Settings.{record_of, value_at, all_fit, store_refusal}

-- behind 2, 15 and a store's own 16: a setting that is unknown or without a record, and then 17
unfoldable pub written_if : ℕ → List ℕ → List ℕ → Setting → Answer
written_if v b name value =
    when not (is_known (known_as v name) && not (eqb (record_of b name) 0)) then refused 16 0
    else when not (all_fit v b && fits (known_as v name) value) then refused 17 0
    else accepted 0 0

unfoldable pub write_setting : ℕ → List ℕ → List ℕ → Setting → Answer
write_setting v b name value = when eqb (store_refusal v b) 0 then written_if v b name value else refused (store_refusal v b) 0

-- the store at exit
unfoldable pub settings_after : ℕ → List ℕ → List ℕ → Setting → List ℕ
settings_after v b name value = written (write_setting v b name value) b (put32 b (value_at (record_of b name)) (bits_of value))
