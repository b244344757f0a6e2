-- What the slot that a search tells says of the entries, and the sets of laws by which the check proves this crate.
-- Assumes nothing.
use Rattle.std.specs.Prelude.{ℕ, ◌≡◌, ◌≢◌, Bool, true, List}
use Rattle.std.proofs.Common.{sym, ◌∙◌, ap}
use Rattle.std.proofs.Math.Option.{none, some}
use Rattle.texts.specs.Lists.{first}
use Rattle.cells.specs.Cells.{length_phones_of, phone_fits_lem, cells_turn, cells_front}
use Rattle.slots_spec.specs.Slot.{Entry}
use Rattle.store_spec.specs.Store.{is_sound, used, next, entry_at, entries}
use Rattle.store_spec.specs.Adding.{seek}
use Rattle.store_spec.specs.Laws.Found.{found_at}
use Rattle.store_spec.proofs.Laws.Found.{found_none, found_some, tells}
use Rattle.store_spec.proofs.Laws.Exact.{all_ordinary}
use Rattle.store_spec.proofs.Sound.{sound}
use Rattle.compiled_spec.proofs.Entries.{length_spoken, spoken_at, number_in, spoken_fits}
use Rattle.lexicon_spec.proofs.Exact.{none_exact}
use Rattle.lexicon_spec.proofs.Lookup.{find_runtime, find_row, find_compiled}

-- behind the slot that a search tells stands the first entry wanted
module _ (b : List ℕ) (wanted : Entry → Bool) (n : ℕ) (s : is_sound b ≡ true) (e : n ≡ next b (seek b wanted (used b) 0)) where
  which : first wanted (entries b) ≡ found_at b n
  which = (tells b wanted (sound b s)).which ∙ ap (λ (k : ℕ). found_at b k) (sym e)

  pub oldest_none : n ≡ 0 → none ≡ first wanted (entries b)
  oldest_none z = sym (which ∙ found_none b n z)

  pub oldest_some : n ≢ 0 → some (entry_at b n) ≡ first wanted (entries b)
  oldest_some z = sym (which ∙ found_some b n z)

-- the laws that the functions of this crate share out among them
pub ruleset oldest = (oldest_none, oldest_some)

pub ruleset exactness = (none_exact, all_ordinary, sound)

pub ruleset copied = (length_phones_of, phone_fits_lem, cells_front)

pub ruleset speaking = (length_spoken, spoken_at, number_in, spoken_fits, cells_turn, cells_front)

pub ruleset finding = (find_runtime, find_row, find_compiled)
