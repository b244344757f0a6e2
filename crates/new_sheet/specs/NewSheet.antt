-- 01, Store and sheet, and 02, S-9: new sheet as a call: refusals 2 and 15, and the sheet at exit.
-- Assumes nothing.
use Rattle.std.specs.Prelude.{ℕ, not, List, length, set, replicate}
use Rattle.texts.specs.Choice.{when◌then◌else◌}
use Rattle.records.specs.Records.{put_record}
use Rattle.versions.specs.Versions.{is_sheet_version}
use Rattle.utterance_spec.specs.Sheet.{is_sheet_length}
use Rattle.answers.specs.declared.Answer.{Answer}
use Rattle.answers.specs.Told.{refused, accepted, written}

-- item 0 of a new sheet: zeros, and byte 1 is the version
unfoldable pub new_head : ℕ → List ℕ
new_head version = set (replicate 64 0) 1 version

-- new sheet: refusal 2 for its length alone, 15 for an unknown version
unfoldable pub new_sheet : List ℕ → ℕ → Answer
new_sheet b version = when not (is_sheet_length (length b)) then refused 2 0 else when not (is_sheet_version version) then refused 15 0 else accepted 0 0

-- item 0 is written whole, and nothing else
unfoldable pub new_bytes : List ℕ → ℕ → List ℕ
new_bytes b version = written (new_sheet b version) b (put_record 64 b 0 (new_head version))
