-- A word put last, said of bytes: the items grow by it, items that are sound by themselves stay so, and all others keep their bytes.
-- Assumes nothing.
use Rattle.std.specs.Prelude.{ℕ, suc, ◌+◌, ◌*◌, ◌≤◌, ◌<◌, ◌≡◌, ◌≢◌}
use Rattle.std.proofs.Common.{arith, sym, ◌∙◌}
use Rattle.std.proofs.Math.Decide.{ℕ_discrete}
use Rattle.std.proofs.Math.Path.{refl, ap, subst}
use Rattle.std.proofs.Math.Bool.{true}
use mathlib.Core.List.{List, [], ◌∷◌}
use Rattle.std.proofs.Math.ListN.{length}
use Rattle.texts.specs.Lists.{from, length_from}
use Rattle.records.specs.Fields.{put16}
use Rattle.records.specs.Records.{record_at, length_record_at}
use Rattle.records.specs.Chain.{All, end_of, all_map, all_end}
use Rattle.items_spec.specs.Item.{item_of, is_word_item, is_syllable_item, is_phone_item, is_head_item, fits, is_item, is_head}
use Rattle.items_spec.proofs.Laws.Patched.{patch_clean, patch_next, patch_follow}
use Rattle.utterance_spec.specs.Tree.{Word, phones_in}
use Rattle.utterance_spec.specs.Sheet.{at, used, items, version}
use Rattle.utterance_spec.specs.Append.{head_or, size, numbered, word_items, put_items, tied, appended, is_said}
use Rattle.utterance_spec.proofs.Laws.Behind.{all_from}
use Rattle.utterance_spec.proofs.Laws.Places.{numbered_alike, all_phones_in, word_items_lem}
use Rattle.utterance_spec.proofs.Laws.Said.{length_syllables}
use Rattle.utterance_spec.proofs.Laws.Grown.{Grown, with_word}
use Rattle.utterance_spec.proofs.Laws.Wrote.{Good, Wrote, word_good, wrote_are, wrote_items, wrote_kept, length_wrote, wrote_other, wrote_new}
use Rattle.utterance_spec.proofs.Laws.Tied.{Holds, length_tied, tied_other, tied_word, tied_phone, tied_head}

pub length_word : (n q : ℕ) (w : Word) → length (word_items n q w) ≡ size w
unfolding word_items
length_word n q w =
    ap suc (length_syllables n q (numbered (n + 1) w.syllables) w.syllables (numbered_alike (n + 1) w.syllables))
    ∙ ap (λ (l : List ℕ). length l) (word_items_lem n w) ∙ length_from n (size w)

all_head : (P : ℕ → Type 0) (d : ℕ) (xs : List ℕ) → P d → All P xs → P (head_or d xs)
all_head P d [] h a = h
all_head P d (x ∷ xs) h a = a.0

-- a patched item: any that has another next, a phone that is followed by another
next_fits : (r : List ℕ) (v : ℕ) → length r ≡ 64 → v < 65536 → is_item (put16 r 2 v) ≡ is_item r
unfolding is_item fits is_word_item is_syllable_item is_phone_item
next_fits r v l h = rw (patch_clean r 2 v l (omega arith), patch_next r v l h)

follow_fits : (r : List ℕ) (v : ℕ) → length r ≡ 64 → v < 65536 → (item_of r).kind ≡ 3 → is_item (put16 r 12 v) ≡ is_item r
unfolding is_item fits is_phone_item
follow_fits r v l h k = rw (patch_clean r 12 v l (omega arith), patch_follow r v l h, k)

module _ (b : List ℕ) (w : Word) (short : length b ≤ 65536) (room : used b + size w < items b) (may : is_said (version b) w ≡ true)
    (inw : (at b 0).last ≤ used b) (inp : (at b 0).prev ≤ used b) (apart : (at b 0).last ≢ 0 → (at b 0).last ≢ (at b 0).prev) where
  abbrev n : ℕ
  n = used b + 1

  abbrev lw : ℕ
  lw = (at b 0).last

  abbrev lp : ℕ
  lp = (at b 0).prev

  abbrev ps : List ℕ
  ps = phones_in (numbered (n + 1) w.syllables)

  abbrev a : ℕ
  a = head_or 0 ps

  abbrev l : ℕ
  l = end_of lp ps

  abbrev c₀ : List ℕ
  c₀ = put_items b n (word_items n lp w)

  abbrev c : List ℕ
  c = tied c₀ lw lp n a l (used b + size w)

  good : Good (word_items n lp w)
  good = word_good (version b) n lp w may

  wide : 64 * (n + length (word_items n lp w)) ≤ length b
  wide = rw (length_word n lp w) (omega arith)

  -- the numbers are small
  small_phones : All (λ (x : ℕ). x < n + size w) ps
  small_phones =
      let f = all_map (λ (x : ℕ). (n ≤ x) × (x < n + size w)) (λ (x : ℕ). x < n + size w) (from n (size w)) (λ x h. h.1) (all_from n (size w)) in
      all_phones_in (λ (x : ℕ). x < n + size w) (numbered (n + 1) w.syllables)
      (subst (λ (l : List ℕ). All (λ (x : ℕ). x < n + size w) l) (sym (word_items_lem n w)) f).1

  small_a : a < 65536
  small_a = let h = all_head (λ (x : ℕ). x < n + size w) 0 ps (omega arith) small_phones in omega arith

  small_l : l < 65536
  small_l = let h = all_end (λ (x : ℕ). x < n + size w) lp ps (omega arith) small_phones in omega arith

  -- the items that the word does not take are as they were before the ties
  before : (j : ℕ) → (used b < j → used b + size w < j) → record_at 64 c₀ j ≡ record_at 64 b j
  before j out = wrote_other b n (word_items n lp w) good wide j (λ h. rw (length_word n lp w) (let o = out (omega arith) in omega arith))

  long : (j : ℕ) → j ≤ used b → length (record_at 64 b j) ≡ 64
  long j h = length_record_at 64 b j (omega arith)

  is_c : appended b w ≡ c
  unfolding appended
  is_c = refl

  pub length_appended : length (appended b w) ≡ length b
  length_appended = rw is_c (length_tied c₀ lw lp n a l (used b + size w) ∙ length_wrote b n (word_items n lp w) good wide)

  -- the record of each item
  pub appended_kept : (j : ℕ) → j ≢ 0 → j ≢ lw → j ≢ lp → (used b < j → used b + size w < j) → record_at 64 (appended b w) j ≡ record_at 64 b j
  appended_kept j r nw np out = rw is_c (tied_other c₀ lw lp n a l (used b + size w) j r nw np ∙ before j out)

  pub word_record : lw ≢ 0 → record_at 64 (appended b w) lw ≡ put16 (record_at 64 b lw) 2 n
  word_record r =
      rw is_c (tied_word c₀ lw lp n a l (used b + size w) r (apart r) ∙ ap (λ (s : List ℕ). put16 s 2 n) (before lw (λ h. absurd (omega arith))))

  pub phone_record : lp ≢ 0 → record_at 64 (appended b w) lp ≡ put16 (record_at 64 b lp) 12 a
  phone_record r =
      rw is_c (tied_phone c₀ lw lp n a l (used b + size w) r (λ e. apart (λ z. r (e ∙ z)) (sym e)) ∙ ap (λ (s : List ℕ). put16 s 12 a) (before lp (λ h. absurd (omega arith))))

  head_record : Holds (record_at 64 b 0) (record_at 64 (appended b w) 0) (with_word n a l (used b + size w) (at b 0))
  unfolding at appended
  head_record =
      let e : record_at 64 c₀ 0 ≡ record_at 64 b 0 = before 0 (λ h. absurd (omega arith)) in
      let t = tied_head c₀ lw lp n a l (used b + size w) (ap (λ (s : List ℕ). length s) e ∙ long 0 (omega arith)) (omega arith) small_a small_l (omega arith)
      (ap (λ (s : List ℕ). (item_of s).last) e) (ap (λ (s : List ℕ). (item_of s).prev) e) in
      subst (λ (s : List ℕ). Holds s (record_at 64 c 0) (with_word n a l (used b + size w) (item_of s))) e t

  new_records : Wrote (appended b w) (from n (size w)) (word_items n lp w)
  new_records =
      let h = subst (λ (m : ℕ). Wrote c₀ (from n m) (word_items n lp w)) (length_word n lp w) (wrote_new b n (word_items n lp w) good wide) in
      rw is_c (wrote_kept c₀ c (from n (size w)) (word_items n lp w)
      (all_map (λ (x : ℕ). (n ≤ x) × (x < n + size w)) (λ (x : ℕ). record_at 64 c x ≡ record_at 64 c₀ x) (from n (size w))
      (λ x k. tied_other c₀ lw lp n a l (used b + size w) x (omega arith) (omega arith) (omega arith)) (all_from n (size w))) h)

  -- the items grow by the word
  pub appended_grown : Grown (at b) (at (appended b w)) n (used b + size w) w
  unfolding at
  appended_grown =
      record {
        head = head_record.item;
        word = λ r. ap item_of (word_record r) ∙ patch_next (record_at 64 b lw) n (long lw inw) (omega arith);
        phone = λ r. ap item_of (phone_record r) ∙ patch_follow (record_at 64 b lp) a (long lp inp) small_a;
        new = wrote_are (appended b w) (from n (size w)) (word_items n lp w) new_records;
        others = λ j r h nw np. ap item_of (appended_kept j r nw np (λ k. absurd (omega arith)));
      }

  -- what was sound by itself still is, and the new items are
  pub appended_head : is_head (record_at 64 b 0) ≡ true → is_head (record_at 64 (appended b w) 0) ≡ true
  unfolding is_head is_head_item at
  appended_head h = rw (head_record.clean, head_record.item) h

  pub appended_old : (lp ≢ 0 → (at b lp).kind ≡ 3) → (j : ℕ) → j ≢ 0 → j ≤ used b → is_item (record_at 64 b j) ≡ true → is_item (record_at 64 (appended b w) j) ≡ true
  unfolding at
  appended_old k j r i h = go (ℕ_discrete j lw) (ℕ_discrete j lp)
    where
      go : Dec (j ≡ lw) → Dec (j ≡ lp) → is_item (record_at 64 (appended b w) j) ≡ true
      go (yes e) d =
          let z : lw ≢ 0 = λ z. r (e ∙ z) in
          rw (e, word_record z, next_fits (record_at 64 b lw) n (long lw inw) (omega arith)) (ap (λ (m : ℕ). is_item (record_at 64 b m)) (sym e) ∙ h)
      go (no d) (yes e) =
          let z : lp ≢ 0 = λ z. r (e ∙ z) in
          rw (e, phone_record z, follow_fits (record_at 64 b lp) a (long lp inp) small_a (k z)) (ap (λ (m : ℕ). is_item (record_at 64 b m)) (sym e) ∙ h)
      go (no d) (no e) = rw (appended_kept j r d e (λ k. absurd (omega arith))) h

  pub appended_new : All (λ (x : ℕ). is_item (record_at 64 (appended b w) x) ≡ true) (from n (size w))
  appended_new = wrote_items (appended b w) (from n (size w)) (word_items n lp w) good new_records
