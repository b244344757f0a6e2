-- 01, Store and sheet: new store as a call: refusal 2, and the store at exit.
-- Assumes nothing.
use Rattle.std.specs.Prelude.{ℕ, not, List, length, replicate}
use Rattle.texts.specs.Choice.{when◌then◌else◌}
use Rattle.records.specs.Records.{put_record}
use Rattle.store_spec.specs.Store.{is_store_length}
use Rattle.answers.specs.declared.Answer.{Answer}
use Rattle.answers.specs.Told.{refused, accepted, written}

-- slot 0 of a new store
unfoldable pub new_head : List ℕ
new_head = replicate 512 0

-- new store: refusal 2 for its length alone; slot 0 is written whole, and nothing else
unfoldable pub new_store : List ℕ → Answer
new_store b = when not (is_store_length (length b)) then refused 2 0 else accepted 0 0

unfoldable pub new_bytes : List ℕ → List ℕ
new_bytes b = written (new_store b) b (put_record 512 b 0 new_head)
