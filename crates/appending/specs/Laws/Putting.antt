-- A word's items as the code writes them: one law for each turn and end of the loops over its phones and its syllables.
-- Assumes nothing.
use Prim.Native.Nat.{ℕ, zero, suc, ◌+◌, ◌-◌, ◌*◌, ◌/◌, ◌≤◌, ◌<◌}
use Rattle.std.proofs.Common.{not-suc-le-zero, add-zero, ◌∙◌, drop-cons, length-take-le}
use Rattle.std.proofs.lemmas.List.{take-take, drop-take, take-map}
use native.Mathlib.Omega.{arith}
use Rattle.std.specs.Prelude.{◌≡◌, refl, get_or, take, drop}
use Rattle.std.proofs.Math.Path.{sym, ap}
use mathlib.Core.List.{List, [], ◌∷◌, ◌++◌}
use Rattle.std.proofs.Math.ListN.{length, length-drop, get_or-append}
use Rattle.std.proofs.Math.Seq.{drop-drop, get_or-drop}
use Rattle.texts.specs.Lists.{from, length_from}
use Rattle.records.specs.Records.{put_record, first_records, records}
use Rattle.records.specs.Chain.{end_of}
use Rattle.cells.specs.Cells.{phones_of, length_phones_of, phones_from}
use Rattle.items_spec.specs.Item.{Item, item}
use Rattle.utterance_spec.specs.Tree.{Syllable, syllables_at}
use Rattle.utterance_spec.specs.Append.{head_or, size_in, size, numbered, phone_items, syllable_items, word_items, put_items, tied, appended}
use Rattle.utterance_spec.specs.Sheet.{at, used}
use Rattle.utterance_spec.specs.Cuts.{grouped, cut_word, Ended}
use Rattle.appending.specs.Laws.Grouped.{Part, span, end_behind, grouped_from}
use Rattle.appending.specs.Laws.Numbers.{Step, step, head_some, end_from, syllable_at_lem, phone_at, phone_last, grouped_end, numbered_turn, phones_long}

-- items put behind others
put_append : (b : List ℕ) (k : ℕ) (is js : List Item) → put_items b k (is ++ js) ≡ put_items (put_items b k is) (k + length is) js
unfolding put_items
put_append b k [] js = rw add-zero
put_append b k (i ∷ is) js =
    let e : k + 1 + length is ≡ k + suc (length is) = omega arith in
    put_append (put_record 64 b k (item i)) (k + 1) is js ∙ rw e

-- phone n of syllable y, behind phone q; left phones of the syllable stand behind it, and then phone a
abbrev pub phone_item : ℕ → ℕ → ℕ → ℕ → ℕ → List ℕ → Item
phone_item y q a n left p =
    record { kind = 3; stress = 0; next = head_or 0 (from (n + 1) left); first = 0; last = 0; parent = y; prev = q; follow = head_or a (from (n + 1) left); mark = 0; source = 0; text = p }

-- the phones j up to e
pub phones_turn : (b : List ℕ) (y q a n j e : ℕ) (ps : List (List ℕ)) → j < e → e ≤ length ps
    → put_items b n (phone_items y q a (from n (e - j)) (take (e - j) (drop j ps)))
    ≡ put_items (put_record 64 b n (item (phone_item y q a n (e - (j + 1)) (get_or ps j [])))) (n + 1) (phone_items y n a (from (n + 1) (e - (j + 1))) (take (e - (j + 1)) (drop (j + 1) ps)))
unfolding put_items phone_items from
phones_turn b y q a n j e ps h l =
    let k : e - j ≡ suc (e - (j + 1)) = omega arith in
    let d = drop-cons ps j [] (omega arith) in
    let f : suc n ≡ n + 1 = omega arith in
    let g : suc j ≡ j + 1 = omega arith in
    rw (k, d, f, g)

pub phones_end : (b : List ℕ) (y q a n j e : ℕ) (ps : List (List ℕ)) → e ≤ j → put_items b n (phone_items y q a (from n (e - j)) ps) ≡ b
unfolding put_items phone_items from
phones_end b y q a n j e ps h = let k : e - j ≡ 0 = omega arith in rw k

length_phone_items : (y q a : ℕ) (xs : List ℕ) (ps : List (List ℕ)) → length xs ≡ length ps → length (phone_items y q a xs ps) ≡ length xs
unfolding phone_items
length_phone_items y q a [] ps l = refl
length_phone_items y q a (x ∷ xs) [] l = absurd (omega arith)
length_phone_items y q a (x ∷ xs) (p ∷ ps) l = ap suc (length_phone_items y x a xs ps (omega arith))

-- syllable k of word w, with n phones; left phones of the word stand behind it
abbrev pub syllable_item : ℕ → ℕ → ℕ → ℕ → ℕ → Item
syllable_item w k stress n left =
    record { kind = 2; stress = stress; next = head_or 0 (from (k + 1 + n) left); first = k + 1; last = k + n; parent = w; prev = 0; follow = 0; mark = 0; source = 0; text = [] }

-- with the items of its phones, behind phone q
unfoldable pub one_syllable : ℕ → ℕ → ℕ → ℕ → ℕ → ℕ → List (List ℕ) → List Item
one_syllable w q k stress n left ps = syllable_item w k stress n left ∷ phone_items k q (head_or 0 (from (k + 1 + n + 1) left)) (from (k + 1) n) ps

pub syllable_written : (b s t : List ℕ) (w q k stress n left next a : ℕ) (ps : List (List ℕ)) → next ≡ head_or 0 (from (k + n + 1) left) → a ≡ head_or 0 (from (k + n + 2) left)
    → s ≡ put_record 64 b k (item (record { kind = 2; stress = stress; next = next; first = k + 1; last = k + n; parent = w; prev = 0; follow = 0; mark = 0; source = 0; text = [] }))
    → t ≡ put_items s (k + 1) (phone_items k q a (from (k + 1) n) ps) → t ≡ put_items b k (one_syllable w q k stress n left ps)
unfolding one_syllable put_items
syllable_written b s t w q k stress n left next a ps en ea es et =
    let e₁ : k + n + 1 ≡ k + 1 + n = omega arith in
    let e₂ : k + n + 2 ≡ k + 1 + n + 1 = omega arith in
    et ∙ rw (es, en, ea, e₁, e₂)

-- the items of syllables numbered from k on
unfoldable pub syllables_from : ℕ → ℕ → ℕ → List Syllable → List Item
syllables_from w q k ys = syllable_items w q (numbered k ys) ys

-- the syllable from phone i to e, and those behind it
module _ (ms : List ℕ) (ps : List (List ℕ)) (i e : ℕ) (l : length ms ≡ length ps) (more : i < length ms) (ended : Ended ms) (end : e ≡ i + span (drop i ms)) where
  items_turn : (w q k : ℕ) → syllables_from w q k (grouped (drop i ms) (drop i ps))
      ≡ one_syllable w q k (get_or ms (e - 1) 0) (e - i) (length ms - e) (take (e - i) (drop i ps)) ++ syllables_from w (k + (e - i)) (k + 1 + (e - i)) (grouped (drop e ms) (drop e ps))
  unfolding syllables_from one_syllable syllable_items
  items_turn w q k =
      let b = end_behind ms ps i e l more ended end in
      let d = length-drop e ms in
      let d₁ = length-drop e ps in
      let same : length (drop e ms) ≡ length (drop e ps) = omega arith in
      let s = syllable_at_lem (drop e ms) (drop e ps) same (k + 1 + (e - i)) in
      let p = phone_at (drop e ms) (drop e ps) same (k + 1 + (e - i)) in
      rw (numbered_turn ms ps i e l more ended end k, grouped_from ms ps i e l more ended end, s, p, d, end_from 0 k (e - i) (omega arith), end_from q k (e - i) (omega arith), head_some 0 (k + 1) (e - i) (omega arith))

  pub syllables_turn : (b : List ℕ) (w q k : ℕ) → put_items b k (syllables_from w q k (grouped (drop i ms) (drop i ps)))
      ≡ put_items (put_items b k (one_syllable w q k (get_or ms (e - 1) 0) (e - i) (length ms - e) (take (e - i) (drop i ps)))) (k + (e - i) + 1) (syllables_from w (k + (e - i)) (k + (e - i) + 1) (grouped (drop e ms) (drop e ps)))
  unfolding one_syllable
  syllables_turn b w q k =
      let n : ℕ = e - i in
      let is = phone_items k q (head_or 0 (from (k + 1 + n + 1) (length ms - e))) (from (k + 1) n) (take n (drop i ps)) in
      let t = phones_long ms ps i e l more ended end in
      let f = length_from (k + 1) n in
      let m : length is ≡ n = length_phone_items k q (head_or 0 (from (k + 1 + n + 1) (length ms - e))) (from (k + 1) n) (take n (drop i ps)) (f ∙ sym t) ∙ f in
      let a : k + 1 + n ≡ k + n + 1 = omega arith in
      let c : k + suc (length is) ≡ k + n + 1 = omega arith in
      ap (λ (js : List Item). put_items b k js) (items_turn w q k)
      ∙ put_append b k (one_syllable w q k (get_or ms (e - 1) 0) n (length ms - e) (take n (drop i ps))) (syllables_from w (k + n) (k + 1 + n) (grouped (drop e ms) (drop e ps)))
      ∙ rw (c, a)

-- past the last phone there are none
pub syllables_end : (b ms : List ℕ) (ps : List (List ℕ)) (i w q k : ℕ) → length ms ≤ i → put_items b k (syllables_from w q k (grouped (drop i ms) (drop i ps))) ≡ b
unfolding put_items syllables_from syllable_items numbered
syllables_end b ms ps i w q k h = rw (grouped_end ms ps i h)

-- the word's own item and its syllables, and then the ties
module _ (ms : List ℕ) (ps : List (List ℕ)) (l : length ms ≡ length ps) (text : List ℕ) (source : ℕ) where
  pub word_written : (b s t : List ℕ) (n q y z : ℕ) → y ≡ head_or 0 (from (n + 1) (length ms)) → z ≡ end_of 0 (syllables_at (numbered (n + 1) (grouped ms ps)))
      → s ≡ put_record 64 b n (item (record { kind = 1; stress = 0; next = 0; first = y; last = z; parent = 0; prev = 0; follow = 0; mark = 0; source = source; text = text }))
      → t ≡ put_items s (n + 1) (syllables_from n q (n + 1) (grouped ms ps)) → t ≡ put_items b n (word_items n q (cut_word text source ms ps))
  unfolding put_items word_items syllables_from
  word_written b s t n q y z ey ez es et = et ∙ rw (es, ey, ez, syllable_at_lem ms ps l (n + 1))

  pub word_tied : (b s t : List ℕ) (w q n a z u : ℕ) → w ≡ (at b 0).last → q ≡ (at b 0).prev → n ≡ used b + 1 → u ≡ used b + (1 + size_in (grouped ms ps))
      → a ≡ head_or 0 (from (n + 2) (length ms)) → z ≡ head_or q (from u (length ms))
      → s ≡ put_items b n (word_items n q (cut_word text source ms ps)) → t ≡ tied s w q n a z u → t ≡ appended b (cut_word text source ms ps)
  unfolding appended size
  word_tied b s t w q n a z u ew eq en eu ea ez es et =
      let e₁ : used b + 1 + 1 + 1 ≡ used b + 1 + 2 = omega arith in
      let e₂ : used b + 1 + size_in (grouped ms ps) ≡ used b + (1 + size_in (grouped ms ps)) = omega arith in
      et ∙ rw (es, ea, ez, eu, en, eq, ew, phone_at ms ps l (used b + 1 + 1), phone_last ms ps l (at b 0).prev (used b + 1), e₁, e₂)

-- the first n phones of a list in cells
first_take : (w n k : ℕ) (b : List ℕ) → w * n ≤ length b → n ≤ k → first_records w n (take (w * n) b) ≡ take n (first_records w k b)
unfolding first_records
first_take w zero k b h g = refl
first_take w (suc n) zero b h g = absurd (not-suc-le-zero g)
first_take w (suc n) (suc k) b h g =
    let e : w * suc n ≡ w + w * n = omega arith in
    let d = length-drop w b in
    rw (e, take-take w (w + w * n) b (omega arith), drop-take w (w * n) b, first_take w n k (drop w b) (omega arith) (omega arith))

phones_front : (b : List ℕ) (n : ℕ) → n ≤ length b / 16 → phones_of (take (16 * n) b) ≡ take n (phones_of b)
unfolding phones_of records
phones_front b n h =
    let e : length (take (16 * n) b) / 16 ≡ n = rw (length-take-le (16 * n) b (omega arith)) (omega arith) in
    rw (e, first_take 16 n (length b / 16) b (omega arith) h, take-map)

-- a syllable and its phones, as they are cut off from the cuts and the cells that are left
module _ (ms marks rest phones cells own behind : List ℕ) (i : ℕ) (l : length ms ≡ length phones / 16) (ended : Ended ms) (p : Part ms marks rest i)
    (d : cells ≡ drop (16 * i) phones) (f : own ≡ take (16 * length marks) cells) (b : behind ≡ drop (16 * length marks) cells) where
  pub part_step : Step ms (phones_of phones) i (i + length marks)
  part_step = step ms (phones_of phones) i (i + length marks) (l ∙ sym (length_phones_of phones)) p.more ended p.end

  long : length cells ≡ length phones - 16 * i
  long = rw (d, length-drop)

  pub part_own : length own / 16 ≡ length marks
  part_own =
      let g = p.fits in
      let n : length own ≡ 16 * length marks = rw (f, length-take-le (16 * length marks) cells (omega (arith, long))) in
      omega arith

  pub part_left : behind ≡ drop (16 * (i + length marks)) phones
  part_left = let e : 16 * i + 16 * length marks ≡ 16 * (i + length marks) = omega arith in b ∙ rw (d, drop-drop (16 * length marks) (16 * i) phones, e)

  stress : get_or ms (i + length marks - 1) 0 ≡ get_or marks (length marks - 1) 0
  stress =
      let g = p.some in
      let k : i + length marks - 1 ≡ i + (length marks - 1) = omega arith in
      rw (k, ← get_or-drop i ms (length marks - 1) 0, p.is) (get_or-append marks rest 0 (length marks - 1) (omega arith))

  phones_own : take (length marks) (drop i (phones_of phones)) ≡ phones_of own
  phones_own =
      let g = p.fits in
      let h : length marks ≤ length cells / 16 = omega (arith, long) in
      sym (rw (f, phones_front cells (length marks) h, d, phones_from phones i (omega arith)))

  count_left : length ms - (i + length marks) ≡ length behind / 16
  count_left =
      let n : length behind ≡ length phones - 16 * (i + length marks) = rw (part_left, length-drop) in
      omega arith

  pub part_put : (sheet : List ℕ) (w q k : ℕ) → put_items sheet k (syllables_from w q k (grouped (drop i ms) (drop i (phones_of phones))))
      ≡ put_items (put_items sheet k (one_syllable w q k (get_or marks (length marks - 1) 0) (length own / 16) (length behind / 16) (phones_of own))) (k + length marks + 1)
      (syllables_from w (k + length marks) (k + length marks + 1) (grouped (drop (i + length marks) ms) (drop (i + length marks) (phones_of phones))))
  part_put sheet w q k =
      let n : i + length marks - i ≡ length marks = omega arith in
      syllables_turn ms (phones_of phones) i (i + length marks) (l ∙ sym (length_phones_of phones)) p.more ended p.end sheet w q k
      ∙ rw (stress, n, count_left, phones_own, part_own)
