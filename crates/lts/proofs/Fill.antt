-- How the padded word and the window of a letter are filled in. Assumes nothing.
use Prim.Native.Nat.{ℕ, suc, ◌+◌, ◌-◌, ◌≤◌, ◌<◌}
use native.Mathlib.Numerals.{add-one}
use native.Mathlib.Omega.{arith}
use mathlib.Core.Path.{◌≡◌, sym, ap, ◌∙◌}
use mathlib.Core.List.{List, [], ◌∷◌, ◌++◌, map, map-append, append_assoc, append-nil}
use lib.ListN.{length, get_or, take, drop, set, replicate, length-append, length-map, length-drop, drop_of_length-le}
use lib.Seq.{take-suc, take_at, set_at, append_snoc, take-length, length-take-le}
use borrow.Rule.Slice.PartMut.{put_mid}
use Rattle.texts.specs.Text.{bytes, folded}
use Rattle.lts_spec.specs.Letters.{padded, window}

-- the front of the text once i bytes of the word are in it
abbrev pub front : List ℕ → ℕ → List ℕ
front word i = bytes "000#" ++ map folded (take i word)

front_length : (word : List ℕ) (i : ℕ) → i ≤ length word → length (front word i) ≡ 4 + i
front_length word i h = omega (arith, length-map (take i word) folded, length-take-le i word h)

module _ (word text : List ℕ) (i : ℕ) (short : length word ≤ 47) (e : text ≡ front word i ++ replicate (51 - i) 48) where
  -- one byte more
  pub front_more : i < length word → set text (4 + i) (folded (get_or word i 0)) ≡ front word (i + 1) ++ replicate (51 - (i + 1)) 48
  front_more h =
      let n : 51 - i ≡ suc (51 - (i + 1)) = omega arith in
      rw (e, n, set_at (front word i) 48 (replicate (51 - (i + 1)) 48) (folded (get_or word i 0)) (4 + i) (front_length word i (omega arith)))
      (rw (add-one, take-suc word i 0 h, map-append folded (take i word) (get_or word i 0 ∷ []))
      (sym (append_snoc (front word i) (folded (get_or word i 0)) (replicate (51 - suc i) 48))))

  -- the "#" behind the last byte
  pub front_all : i ≡ length word → take (length word + 8) (set text (4 + i) 35) ≡ padded word
  unfolding padded
  front_all ei =
      let n : 51 - i ≡ suc (suc (suc (suc (47 - i)))) = omega arith in
      let more : List ℕ = replicate (47 - i) 48 in
      let p = front word i ++ bytes "#000" in
      let f = front_length word i (omega arith) in
      let l : length p ≡ length word + 8 = omega (arith, length-append (front word i) (bytes "#000")) in
      let s : set text (4 + i) 35 ≡ p ++ more =
      rw (e, n, set_at (front word i) 48 (48 ∷ 48 ∷ 48 ∷ more) 35 (4 + i) f) (sym (append_assoc (front word i) (bytes "#000") more)) in
      ap (λ (t : List ℕ). take (length word + 8) t) s ∙ take_at p more (length word + 8) l ∙ rw (ei, take-length word)

-- four bytes before and four after make eight
pub halves : (a b : List ℕ) → length a ≡ 4 → length b ≡ 4 → put_mid 4 4 (a ++ (0 ∷ 0 ∷ 0 ∷ 0 ∷ [])) b ≡ a ++ b
halves a b ha hb =
    let z : List ℕ = 0 ∷ 0 ∷ 0 ∷ 0 ∷ [] in
    let none : drop 4 (drop 4 (a ++ z)) ≡ [] = drop_of_length-le (drop 4 (a ++ z)) {i = 4} (omega (arith, length-drop 4 (a ++ z), length-append a z)) in
    rw (take_at a z 4 ha, none, append-nil)

pub parts : (text : List ℕ) (k : ℕ) (a b : List ℕ) → 4 ≤ k → k + 4 < length text
    → a ≡ take (k - (k - 4)) (drop (k - 4) text) → b ≡ take (k + 5 - (k + 1)) (drop (k + 1) text)
    → put_mid 4 4 (a ++ (0 ∷ 0 ∷ 0 ∷ 0 ∷ [])) b ≡ window text k
unfolding window
parts text k a b low high ea eb =
    let m : k - (k - 4) ≡ 4 = omega arith in
    let n : k + 5 - (k + 1) ≡ 4 = omega arith in
    let la : length a ≡ 4 = rw (ea, m) (length-take-le 4 (drop (k - 4) text) (rw length-drop (omega arith))) in
    let lb : length b ≡ 4 = rw (eb, n) (length-take-le 4 (drop (k + 1) text) (rw length-drop (omega arith))) in
    halves a b la lb ∙ rw (ea, eb, m, n)
