-- 01, Letter trees: the phones of a word, by the trees of its letters; and 02, S-5: the place where these stop.
-- Assumes nothing.
use Rattle.std.specs.Prelude.{ℕ, zero, suc, ◌+◌, ◌-◌, ◌*◌, ◌/◌, Bool, ◌&&◌, List, [], ◌∷◌, ◌++◌, map, leb, ltb, length, get_or, take, drop, Option as Walked, Some, None}
use Rattle.std.proofs.Math.Option.{Option, none, some}
use Rattle.texts.specs.Choice.{when◌then◌else◌}
use Rattle.texts.specs.Lists.{place, behind_last}
use Rattle.texts.specs.Text.{bytes, folded, same, is}
use Rattle.records.specs.Fields.{u16_at, u32_at}
use Rattle.data.specs.Sections.{is_phone_table, table_phones, is_lts_index, is_lts_model}
use Rattle.trees.specs.Walk.{walk}

-- the folded word between "000#" and "#000"
unfoldable pub padded : List ℕ → List ℕ
padded word = bytes "000#" ++ (map folded word ++ bytes "#000")

-- features 0 to 7 of the letter at place k: the four bytes before it, then the four after
unfoldable pub window : List ℕ → ℕ → List ℕ
window text k = take 4 (drop (k - 4) text) ++ take 4 (drop (k + 1) text)

-- the phones of a leaf: "epsilon" gives nothing, and a "-" splits at its first place
unfoldable pub spoken : List ℕ → List (List ℕ)
spoken x =
    let dash = place (is 45) x in
    when same x (bytes "epsilon") then []
    else when ltb dash (length x) then take dash x ∷ drop (dash + 1) x ∷ []
    else x ∷ []

-- phones, and phones behind them; none stands for damage
abbrev pub behind : Option (List (List ℕ)) → List (List ℕ) → Option (List (List ℕ))
behind none said = none
behind (some ps) said = some (ps ++ said)

-- lts.phones, lts.index and lts.model have their form (refusal 1)
unfoldable pub is_trees : List ℕ → List ℕ → List ℕ → Bool
is_trees phones index model = is_phone_table phones && is_lts_index index && is_lts_model model

module _ (phones index model : List ℕ) where
  -- the phones of the leaf that a walk came to
  abbrev pub leaf : Walked ℕ → Option (List (List ℕ))
  leaf (Some p) = some (spoken (get_or (table_phones phones) p []))
  leaf None = none

  -- the phones of the byte at place k of a padded word: a letter's by its tree, none of any other byte
  unfoldable pub letter : List ℕ → ℕ → Option (List (List ℕ))
  letter text k =
      let b = get_or text k 0 in
      when leb 97 b && leb b 122
      then leaf (walk model (window text k) (u32_at phones 0) (length model / 6) (u16_at index (2 * (b - 97))))
      else some []

  -- what a letter's phones make of those to its left
  abbrev pub joined : Option (List (List ℕ)) → Option (List (List ℕ)) → Option (List (List ℕ))
  joined left none = none
  joined left (some ps) = behind left ps

  -- the phones of the first n bytes of a padded word, leftwards from the last of them until "#"
  unfoldable pub up_to : List ℕ → ℕ → Option (List (List ℕ))
  up_to text zero = some []
  up_to text (suc n) = when is 35 (get_or text (n + 4) 0) then some [] else joined (up_to text n) (letter text (n + 4))

  -- the phones of a word
  unfoldable pub letters : List ℕ → Option (List (List ℕ))
  letters word = up_to (padded word) (length word)

-- 02, S-5: where a word's letters stop, the place just after its last "#", counted from 0 in the word as given; 0 if there is none
unfoldable pub stopped : List ℕ → ℕ
stopped word = behind_last (is 35) word
