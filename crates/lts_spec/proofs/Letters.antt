-- Theorems about `specs/Letters.antt`: 01, Letter trees: the phones of a word, by the trees of its letters; and 02, S-5: the place where these stop.
-- Assumes nothing.
use Rattle.std.specs.Prelude.{ℕ, ◌+◌, ◌-◌, ◌*◌, ◌/◌, ◌%◌, ◌≤◌, ◌<◌, ◌≡◌, true, false, ◌&&◌, List, [], ◌∷◌, eqb, leb, length, get_or, take, drop, Option as Walked}
use Rattle.std.proofs.Math.Option.{some}
use Rattle.std.proofs.Common.{arith}
use borrow.Author.Tests.{lt-ltb, le-ltb, le-leb, lt-leb, eqb-true}
use Rattle.texts.specs.Choice.{both_true}
use Rattle.texts.specs.Lists.{place}
use Rattle.texts.specs.Text.{bytes, same, is}
use Rattle.records.specs.Fields.{u16_at, u32_at}
use Rattle.data.specs.Sections.{is_phone_table, is_lts_index, is_lts_model}
use Rattle.trees.specs.Walk.{walk}
use Rattle.lts_spec.specs.Letters.{window, spoken, is_trees, leaf, letter}

-- the phones of a leaf, by the tests
pub spoken_none : (x : List ℕ) → same x (bytes "epsilon") ≡ true → spoken x ≡ []
unfolding spoken
spoken_none x e = rw e

module _ (x : List ℕ) (other : same x (bytes "epsilon") ≡ false) where
  pub spoken_two : place (is 45) x < length x → spoken x ≡ take (place (is 45) x) x ∷ drop (place (is 45) x + 1) x ∷ []
  unfolding spoken
  spoken_two h = rw (other, lt-ltb (place (is 45) x) (length x) h)

  pub spoken_one : length x ≤ place (is 45) x → spoken x ≡ x ∷ []
  unfolding spoken
  spoken_one h = rw (other, le-ltb (place (is 45) x) (length x) h)

-- the phones of a byte, by the tests
module _ (phones index model text : List ℕ) (k : ℕ) where
  pub letter_left : get_or text k 0 < 97 → letter phones index model text k ≡ some []
  unfolding letter
  letter_left h = rw (lt-leb 97 (get_or text k 0) h)

  pub letter_right : 122 < get_or text k 0 → letter phones index model text k ≡ some []
  unfolding letter
  letter_right h = rw (le-leb 97 (get_or text k 0) (omega arith), lt-leb (get_or text k 0) 122 h)

  pub letter_walked : 97 ≤ get_or text k 0 → get_or text k 0 ≤ 122 → (w : Walked ℕ)
      → walk model (window text k) (u32_at phones 0) (length model / 6) (u16_at index (2 * (get_or text k 0 - 97))) ≡ w
      → letter phones index model text k ≡ leaf phones index model w
  unfolding letter
  letter_walked low high w e = rw (le-leb 97 (get_or text k 0) low, le-leb (get_or text k 0) 122 high, e)

-- of the letter trees' sections, lts.phones is a table
pub trees_table : (phones index model : List ℕ) → is_trees phones index model ≡ true → is_phone_table phones ≡ true
unfolding is_trees
trees_table phones index model h =
    (both_true (is_phone_table phones) (is_lts_index index) (both_true (is_phone_table phones && is_lts_index index) (is_lts_model model) h).0).0

-- and lts.model has whole nodes
pub trees_model : (phones index model : List ℕ) → is_trees phones index model ≡ true → length model % 6 ≡ 0
unfolding is_trees is_lts_model
trees_model phones index model h =
    eqb-true (length model % 6) 0 (both_true (leb (length model) 393216) (eqb (length model % 6) 0) (both_true (is_phone_table phones && is_lts_index index) (is_lts_model model) h).1).1
