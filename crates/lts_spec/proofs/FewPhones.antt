-- Theorems about `specs/FewPhones.antt`: 01, predict: why 7 is not among its refusals. Each letter gives at most two phones, parts of one in lts.phones: a word of 47 bytes at most 94, each of at most 15 bytes.
-- Assumes nothing.
use Prim.Native.Nat.{ℕ, zero, suc, ◌+◌, ◌*◌, ◌-◌, ◌/◌, ◌≤◌, ◌<◌}
use native.Mathlib.Omega.{arith}
use Rattle.std.specs.Prelude.{◌≡◌, true, ◌&&◌, List, [], ltb, length, take, drop, Option as Walked, Some, None}
use Rattle.std.proofs.Math.Path.{refl}
use Rattle.std.proofs.Common.{subst, length-take, length-drop, length-append}
use Rattle.std.proofs.Math.Option.{Option, none, some}
use Rattle.std.proofs.Math.Dec.{leb}
use Rattle.std.proofs.Math.ListN.{get_or, get_or-eq_default}
use borrow.Author.Tests.{leb-true, le-leb, leb-false}
use Rattle.texts.specs.Choice.{both_true, cases}
use Rattle.texts.specs.Lists.{every, every_append, place}
use Rattle.texts.specs.Text.{bytes, ascii, is, same, is_word, is_phone, word_short, phone_from, phone_short, ascii_take, ascii_drop}
use Rattle.records.specs.Fields.{u16_at, u32_at}
use Rattle.data.specs.Sections.{is_phone_table, table_phones, length_table, table_fits}
use Rattle.trees.specs.Walk.{walk}
use Rattle.lts_spec.specs.Letters.{padded, window, spoken, is_trees, leaf, letter, joined, up_to, letters}
use Rattle.lts_spec.proofs.Letters.{trees_table}
use Rattle.lts_spec.specs.FewPhones.{Few, AreFit}

-- at most two phones a letter
spoken_few : (x : List ℕ) → length (spoken x) ≤ 2
unfolding spoken
spoken_few x =
    cases (same x (bytes "epsilon")) (λ e. rw e (omega arith)) (λ e. cases (ltb (place (is 45) x) (length x))
    (λ f. rw (e, f) (omega arith))
    (λ f. rw (e, f) (omega arith)))

module _ (phones index model : List ℕ) where
  leaf_few : (w : Walked ℕ) → Few 2 (leaf phones index model w)
  leaf_few (Some p) = spoken_few (get_or (table_phones phones) p [])
  leaf_few None = tt

  letter_few : (text : List ℕ) (k : ℕ) → Few 2 (letter phones index model text k)
  unfolding letter
  letter_few text k =
      let b = get_or text k 0 in
      cases (leb 97 b && leb b 122)
      (λ e. rw e (leaf_few (walk model (window text k) (u32_at phones 0) (length model / 6) (u16_at index (2 * (b - 97))))))
      (λ e. rw e (omega arith))

  joined_few : (n : ℕ) (left o : Option (List (List ℕ))) → Few (2 * n) left → Few 2 o → Few (2 * suc n) (joined phones index model left o)
  joined_few n left none a b = tt
  joined_few n none (some ps) a b = tt
  joined_few n (some qs) (some ps) a b = let l = length-append qs ps in omega arith

  up_few : (text : List ℕ) (n : ℕ) → Few (2 * n) (up_to phones index model text n)
  unfolding up_to
  up_few text zero = omega arith
  up_few text (suc n) =
      let ih = up_few text n in
      cases (is 35 (get_or text (n + 4) 0))
      (λ e. rw e (omega arith))
      (λ e. rw e (joined_few n (up_to phones index model text n) (letter phones index model text (n + 4)) ih (letter_few text (n + 4))))

  pub letters_few : (word : List ℕ) → Few (2 * length word) (letters phones index model word)
  unfolding letters
  letters_few word = up_few (padded word) (length word)

-- any number's phone in a table, none past its end
pub table_phone : (table : List ℕ) (k : ℕ) → is_phone_table table ≡ true → is_phone (get_or (table_phones table) k []) ≡ true
table_phone table k t =
    let n = length_table table in
    cases (leb (u32_at table 0) k)
    (λ e. let l = leb-true (u32_at table 0) k e in let h : length (table_phones table) ≤ k = omega arith in rw (get_or-eq_default (table_phones table) [] h) (unfold is_phone ascii every in refl))
    (λ e. let l = leb-false (u32_at table 0) k e in let f = table_fits table k t l in phone_from (get_or (table_phones table) k []) f.short f.low)

-- a phone of the table, whole or split, fits
spoken_fit : (x : List ℕ) → is_phone x ≡ true → every is_phone (spoken x) ≡ true
unfolding spoken is_phone every
spoken_fit x h =
    let d = place (is 45) x in
    let b = both_true (leb (length x) 15) (ascii x) h in
    let l = leb-true (length x) 15 b.0 in
    let t = length-take d x in
    let r = length-drop (d + 1) x in
    cases (same x (bytes "epsilon")) (λ e. rw e) (λ e. cases (ltb d (length x))
    (λ f. rw (e, f, le-leb (length (take d x)) 15 (omega arith), ascii_take d x b.1, le-leb (length (drop (d + 1) x)) 15 (omega arith), ascii_drop (d + 1) x b.1))
    (λ f. rw (e, f, b.0, b.1)))

module _ (phones index model : List ℕ) (t : is_phone_table phones ≡ true) where
  leaf_fit : (w : Walked ℕ) → AreFit (leaf phones index model w)
  leaf_fit (Some p) = spoken_fit (get_or (table_phones phones) p []) (table_phone phones p t)
  leaf_fit None = tt

  letter_fit : (text : List ℕ) (k : ℕ) → AreFit (letter phones index model text k)
  unfolding letter every
  letter_fit text k =
      let b = get_or text k 0 in
      cases (leb 97 b && leb b 122)
      (λ e. rw e (leaf_fit (walk model (window text k) (u32_at phones 0) (length model / 6) (u16_at index (2 * (b - 97))))))
      (λ e. rw e)

  joined_fit : (left o : Option (List (List ℕ))) → AreFit left → AreFit o → AreFit (joined phones index model left o)
  joined_fit left none a b = tt
  joined_fit none (some ps) a b = tt
  joined_fit (some qs) (some ps) a b = rw (every_append is_phone qs ps, a, b)

  up_fit : (text : List ℕ) (n : ℕ) → AreFit (up_to phones index model text n)
  unfolding up_to every
  up_fit text zero = refl
  up_fit text (suc n) =
      let ih = up_fit text n in
      cases (is 35 (get_or text (n + 4) 0))
      (λ e. rw e)
      (λ e. rw e (joined_fit (up_to phones index model text n) (letter phones index model text (n + 4)) ih (letter_fit text (n + 4))))

  pub letters_fit : (word : List ℕ) → AreFit (letters phones index model word)
  unfolding letters
  letters_fit word = up_fit (padded word) (length word)

-- so 7 has no place in predict: at most 94 phones, none over 15 bytes
pub no_seven : (phones index model word : List ℕ) → is_trees phones index model ≡ true → is_word word ≡ true
    → (ps : List (List ℕ)) → letters phones index model word ≡ some ps → (length ps ≤ 94) × ((i : ℕ) → i < length ps → length (get_or ps i []) ≤ 15)
no_seven phones index model word trees h ps e =
    let short = word_short word h in
    let few : length ps ≤ 2 * length word = subst (Few (2 * length word)) e (letters_few phones index model word) in
    (omega arith, phone_short ps (subst AreFit e (letters_fit phones index model (trees_table phones index model trees) word)))
