-- 02, S-2, the second step. accept entries as a call: its refusals 2 and 12, and the store at exit.
-- Assumes nothing.
use Rattle.std.specs.Prelude.{ℕ, ◌+◌, not, ◌&&◌, ◌||◌, List, eqb, length}
use Rattle.texts.specs.Choice.{when◌then◌else◌}
use Rattle.store_spec.specs.Store.{is_sound, count, with_count, largest}
use Rattle.answers.specs.declared.Answer.{Answer}
use Rattle.answers.specs.Told.{refused, accepted, written}

module _ (store spare : List ℕ) where
  unfoldable pub accept_entries : Answer
  accept_entries =
      when not (is_sound store && eqb (length spare) (length store) && is_sound spare) then refused 2 0
      else when not (eqb (count spare) (count store)) || eqb (count store) largest then refused 12 0
      else accepted 0 0

  -- the store at exit: the spare's bytes, the count one higher
  unfoldable pub store_after : List ℕ
  store_after = written accept_entries store (with_count spare (count spare + 1))
