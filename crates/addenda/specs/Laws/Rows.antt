-- What the code reads of an encoded row is the row.
-- Assumes nothing.
use Prim.Native.Nat.{ℕ, zero, suc, ◌+◌, ◌-◌, ◌*◌, ◌≤◌, ◌<◌}
use Rattle.std.proofs.Common.{not-suc-le-zero, ◌∙◌, length-append, drop-drop, drop_at, get_or-drop, leb-true}
use native.Mathlib.Omega.{arith}
use Rattle.std.specs.Prelude.{◌≡◌, Bool, true, ◌&&◌, leb, ltb, length, take, drop, replicate}
use Rattle.std.proofs.Math.Path.{sym, ap}
use mathlib.Core.List.{List, [], ◌∷◌, ◌++◌, map, append_assoc}
use Rattle.std.proofs.Math.ListN.{get_or}
use Rattle.std.proofs.lemmas.List.{length-replicate}
use Rattle.std.proofs.Math.Seq.{take-append_seam}
use Rattle.texts.specs.Choice.{both_true}
use Rattle.texts.specs.Lists.{every, every_at, get_d_map}
use Rattle.texts.specs.Text.{ascii, same, agree}
use Rattle.cells.specs.Cells.{text}
use Rattle.addenda.specs.Addenda.{Addendum, addenda, no_addendum, padded, cells, encoded}
use Rattle.addenda.specs.Find.{is_meant}
use Rattle.addenda.specs.Rules.{phone_fits, fits, addenda_count, addenda_fit}

-- a text with zeros behind it: the text, and how wide it is
text_padded : (w : ℕ) (x rest : List ℕ) → text (padded w x ++ rest) ≡ x
unfolding text padded
text_padded w x rest =
    ap (λ (l : List ℕ). take (length x) l) (append_assoc x (replicate (w - length x) 0) rest)
    ∙ take-append_seam x (replicate (w - length x) 0 ++ rest)

length_padded : (w : ℕ) (x : List ℕ) → length x ≤ w → length (padded w x) ≡ 1 + w
unfolding padded
length_padded w x h = simp (length-append, length-replicate) (omega arith)

-- one of the cells
text_cells : (ps : List (List ℕ)) (rest : List ℕ) (i : ℕ) → ((j : ℕ) → j < length ps → length (get_or ps j []) ≤ 3) → i < length ps
    → text (drop (4 * i) (cells ps ++ rest)) ≡ get_or ps i []
unfolding cells
text_cells [] rest i h l = absurd (not-suc-le-zero l)
text_cells (p ∷ ps) rest zero h l = rw (append_assoc (padded 3 p) (cells ps) rest) (text_padded 3 p (cells ps ++ rest))
text_cells (p ∷ ps) rest (suc i) h l =
    let e : 4 * suc i ≡ 4 + 4 * i = omega arith in
    let n = length_padded 3 p (h 0 (omega arith)) in
    let ih = text_cells ps rest i (λ j k. h (suc j) (omega arith)) (omega arith) in
    rw (e, ← drop-drop (4 * i) 4 ((padded 3 p ++ cells ps) ++ rest), append_assoc (padded 3 p) (cells ps) rest, drop_at (padded 3 p) (cells ps ++ rest) 4 n) ih

-- any row's parts
module _ (r : Addendum) where
  zeros : List ℕ
  zeros = replicate (32 - 4 * length r.phones) 0

  behind : List ℕ
  behind = length r.phones ∷ cells r.phones ++ zeros

  parts : encoded r ≡ r.tag ∷ padded 6 r.word ++ behind
  unfolding encoded behind zeros
  parts = ap (λ (l : List ℕ). r.tag ∷ l) (append_assoc (padded 6 r.word) (length r.phones ∷ cells r.phones) zeros)

  pub row_tag : get_or (encoded r) 0 0 ≡ r.tag
  row_tag = ap (λ (l : List ℕ). get_or l 0 0) parts

  pub row_word : text (drop 1 (encoded r)) ≡ r.word
  row_word = ap (λ (l : List ℕ). text (drop 1 l)) parts ∙ text_padded 6 r.word behind

  drop_word : length r.word ≤ 6 → drop 8 (encoded r) ≡ behind
  drop_word h = ap (λ (l : List ℕ). drop 8 l) parts ∙ drop_at (padded 6 r.word) behind 7 (length_padded 6 r.word h)

  -- those of a row that fits
  fit : fits r ≡ true → (length r.word ≤ 6) × (length r.phones ≤ 8) × (every phone_fits r.phones ≡ true)
  fit h =
      let t = ltb r.tag 128 in
      let w = leb (length r.word) 6 in
      let n = leb (length r.phones) 8 in
      let d = both_true (t && w && ascii r.word && n) (every phone_fits r.phones) h in
      let e = both_true (t && w && ascii r.word) n d.0 in
      let f = both_true t w (both_true (t && w) (ascii r.word) e.0).0 in
      (leb-true (length r.word) 6 f.1, leb-true (length r.phones) 8 e.1, d.1)

  short : fits r ≡ true → (i : ℕ) → i < length r.phones → length (get_or r.phones i []) ≤ 3
  short h i l =
      let x = get_or r.phones i [] in
      leb-true (length x) 3 (both_true (leb (length x) 3) (ascii x) (every_at phone_fits r.phones [] (fit h).2 i l)).0

  count_of : fits r ≡ true → get_or (encoded r) 8 0 ≡ length r.phones
  unfolding behind
  count_of h = sym (get_or-drop 8 (encoded r) 0 0) ∙ ap (λ (l : List ℕ). get_or l 0 0) (drop_word (fit h).0)

  phone_of : fits r ≡ true → (i : ℕ) → i < length r.phones → text (drop (9 + 4 * i) (encoded r)) ≡ get_or r.phones i []
  unfolding behind
  phone_of h i l =
      let e : 9 + 4 * i ≡ 8 + (1 + 4 * i) = omega arith in
      let s : 1 + 4 * i ≡ suc (4 * i) = omega arith in
      ap (λ (k : ℕ). text (drop k (encoded r))) e
      ∙ ap (λ (b : List ℕ). text b) (sym (drop-drop (1 + 4 * i) 8 (encoded r)))
      ∙ ap (λ (b : List ℕ). text (drop (1 + 4 * i) b)) (drop_word (fit h).0)
      ∙ ap (λ (k : ℕ). text (drop k behind)) s
      ∙ text_cells r.phones zeros i (short h) l

-- a row as the code keeps it has this word, and a tag that agrees
unfoldable pub is_meant_by : List ℕ → ℕ → List ℕ → Bool
is_meant_by word tag row = same (text (drop 1 row)) word && agree true (get_or row 0 0) tag

pub encoded_meant : (word : List ℕ) (tag : ℕ) (r : Addendum) → is_meant_by word tag (encoded r) ≡ is_meant word tag r
unfolding is_meant_by is_meant
encoded_meant word tag r = rw (row_word r, row_tag r)

-- what the code reads of row n of its table
module _ (table : List (List ℕ)) (e : table ≡ map encoded addenda) (n : ℕ) (h : n < 42) where
  pub row_at : get_or table n [] ≡ encoded (get_or addenda n no_addendum)
  row_at = rw e (get_d_map encoded addenda n no_addendum [] (rw addenda_count h))

  pub row_meant : (word : List ℕ) (tag : ℕ) → is_meant_by word tag (get_or table n []) ≡ is_meant word tag (get_or addenda n no_addendum)
  row_meant word tag = rw row_at (encoded_meant word tag (get_or addenda n no_addendum))

-- row n of the table fits
module _ (n : ℕ) (h : n < 42) where
  fitting : fits (get_or addenda n no_addendum) ≡ true
  fitting = every_at fits addenda no_addendum addenda_fit n (rw addenda_count h)

  pub row_few : length (get_or addenda n no_addendum).phones ≤ 8
  row_few = (fit (get_or addenda n no_addendum) fitting).1

  pub row_short : (i : ℕ) → i < length (get_or addenda n no_addendum).phones → length (get_or (get_or addenda n no_addendum).phones i []) ≤ 3
  row_short = short (get_or addenda n no_addendum) fitting

  pub row_count : get_or (encoded (get_or addenda n no_addendum)) 8 0 ≡ length (get_or addenda n no_addendum).phones
  row_count = count_of (get_or addenda n no_addendum) fitting

  pub row_phone : (i : ℕ) → i < length (get_or addenda n no_addendum).phones
      → text (drop (9 + 4 * i) (encoded (get_or addenda n no_addendum))) ≡ get_or (get_or addenda n no_addendum).phones i []
  row_phone = phone_of (get_or addenda n no_addendum) fitting
