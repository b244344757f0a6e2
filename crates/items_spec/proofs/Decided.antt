-- `is_item` and `is_head` decide what a sound item and a sound item 0 are, in both directions.
-- Assumes nothing.
use Rattle.std.specs.Prelude.{ℕ, ◌+◌, ◌≤◌, ◌≡◌, true, List, eqb, leb, length, drop}
use Rattle.std.proofs.Common.{arith, length-drop, length-take-le}
use Rattle.std.proofs.Math.ListN.{get_or, take}
use borrow.Author.Tests.{eqb-true, eqb-false, eq-eqb, ne_eqb, leb-true, le-leb}
use Rattle.texts.specs.Choice.{both_true, cases}
use Rattle.texts.specs.Lists.{every}
use Rattle.texts.specs.Text.{is, ascii, is_word}
use Rattle.records.specs.Fields.{u16_at}
use Rattle.records.specs.Between.{Zero, rest_zero, zero_rest, text_low, low_text, byte_zero, join_zero, u16_zero, zero_u16}
use Rattle.versions.proofs.SoundStress.{version_told, told_version}
use Rattle.items_spec.specs.Item.{item_of, is_clean, is_source, is_word_item, is_syllable_item, is_phone_item, is_head_item, fits, is_item, is_head}
use Rattle.items_spec.specs.SoundItem.{SoundSource, runtime, addenda, compiled, letter_trees, SoundWord, SoundSyllable, SoundPhone}
use Rattle.items_spec.specs.SoundItem.{SoundItem, word, syllable, phone, SoundHead}
use Rattle.items_spec.proofs.Laws.Fields.{word_fields, syllable_fields, phone_fields, head_fields}

-- a word's source
source_told : (s : ℕ) → is_source s ≡ true → SoundSource s
unfolding is_source
source_told s h =
    let b = both_true (leb 1 s) (leb s 4) h in
    let from = leb-true 1 s b.0 in
    let to = leb-true s 4 b.1 in
    cases (eqb s 1) (λ e. runtime (eqb-true s 1 e))
    (λ n₁. cases (eqb s 2) (λ e. addenda (eqb-true s 2 e))
    (λ n₂. cases (eqb s 3) (λ e. compiled (eqb-true s 3 e))
    (λ n₃. letter_trees (omega (arith, from, to, eqb-false s 1 n₁, eqb-false s 2 n₂, eqb-false s 3 n₃)))))

told_source : (s : ℕ) → SoundSource s → is_source s ≡ true
unfolding is_source
told_source s (runtime e) = rw e
told_source s (addenda e) = rw e
told_source s (compiled e) = rw e
told_source s (letter_trees e) = rw e

-- two u16s in a row that are zero, and one
module _ (r : List ℕ) where
  links_told : (k : ℕ) → u16_at r k ≡ 0 → u16_at r (k + 2) ≡ 0 → Zero r k (k + 4)
  links_told k p q = join_zero r k (k + 2) (k + 4) (u16_zero r k p) (λ i lo hi. u16_zero r (k + 2) q i lo (omega arith))

  told_link : (k : ℕ) → Zero r k (k + 2) → eqb (u16_at r k) 0 ≡ true
  told_link k z = eq-eqb (u16_at r k) 0 (zero_u16 r k z)

  told_links : (k : ℕ) → Zero r k (k + 4) → (eqb (u16_at r k) 0 ≡ true) × (eqb (u16_at r (k + 2)) 0 ≡ true)
  told_links k z = (told_link k (λ i lo hi. z i lo (omega arith)), told_link (k + 2) (λ i lo hi. z i (omega arith) (omega arith)))

-- the text
module _ (r : List ℕ) (size : length r ≡ 64) where
  clean_told : is_clean r ≡ true → (get_or r 16 0 ≤ 47) × Zero r (17 + get_or r 16 0) 64
  unfolding is_clean
  clean_told h =
      let b = both_true (leb (get_or r 16 0) 47) (every (is 0) (drop (17 + get_or r 16 0) r)) h in
      (leb-true (get_or r 16 0) 47 b.0, (λ i lo hi. rest_zero r (17 + get_or r 16 0) b.1 i lo))

  told_clean : get_or r 16 0 ≤ 47 → Zero r (17 + get_or r 16 0) 64 → is_clean r ≡ true
  unfolding is_clean
  told_clean short z =
      rw (le-leb (get_or r 16 0) 47 short, zero_rest r (17 + get_or r 16 0) (λ i lo l. z i lo (omega arith)))

  text_size : get_or r 16 0 ≤ 47 → length (take (get_or r 16 0) (drop 17 r)) ≡ get_or r 16 0
  text_size h = length-take-le (get_or r 16 0) (drop 17 r) (rw length-drop (omega arith))

  no_text_lem : is_clean r ≡ true → length (take (get_or r 16 0) (drop 17 r)) ≡ 0 → Zero r 16 64
  no_text_lem c e =
      let k = clean_told c in
      let l = text_size k.0 in
      let z : get_or r 16 0 ≡ 0 = omega (arith, e) in
      join_zero r 16 17 64 (byte_zero r 16 z) (λ i lo hi. k.1 i (omega arith) hi)

  text_none : Zero r 16 64 → (is_clean r ≡ true) × (eqb (length (take (get_or r 16 0) (drop 17 r))) 0 ≡ true)
  text_none z =
      let e = z 16 (omega arith) (omega arith) in
      let l = text_size (omega arith) in
      (told_clean (omega arith) (λ i lo hi. z i (omega arith) hi), eq-eqb (length (take (get_or r 16 0) (drop 17 r))) 0 (omega arith))

  -- an item of each kind
  word_told : is_clean r ≡ true → is_word_item (item_of r) ≡ true → SoundWord r
  unfolding item_of is_word
  word_told c h =
      let t = take (get_or r 16 0) (drop 17 r) in
      let f = word_fields (item_of r) h in
      let low = (both_true (leb (length t) 47) (ascii t) f.text).1 in
      let k = clean_told c in
      let short = k.0 in
      record {
        kind = f.kind;
        no_stress = f.stress;
        no_phone_links = links_told r 10 f.prev f.follow;
        unnamed = f.mark;
        source = source_told (get_or r 15 0) f.source;
        text = record { short = short; low = text_low r 17 (get_or r 16 0) (omega arith) low; past_text = k.1 };
      }

  told_word : SoundWord r → (is_clean r ≡ true) × (is_word_item (item_of r) ≡ true)
  unfolding is_word_item item_of is_word
  told_word s =
      let short = s.text.short in
      let l = text_size short in
      let k = told_links r 10 s.no_phone_links in (
        told_clean short s.text.past_text,
        rw (
          eq-eqb (get_or r 0 0) 1 s.kind,
          eq-eqb (get_or r 1 0) 0 s.no_stress,
          k.0,
          k.1,
          eq-eqb (get_or r 14 0) 0 s.unnamed,
          told_source (get_or r 15 0) s.source,
          l,
          le-leb (get_or r 16 0) 47 short,
          low_text r 17 (get_or r 16 0) (omega arith) s.text.low,
        ),
      )

  syllable_told : is_clean r ≡ true → is_syllable_item (item_of r) ≡ true → SoundSyllable r
  unfolding item_of
  syllable_told c h =
      let f = syllable_fields (item_of r) h in
      record {
        kind = f.kind;
        no_phone_links = links_told r 10 f.prev f.follow;
        unnamed = f.mark;
        no_source = f.source;
        no_text = no_text_lem c f.text;
      }

  told_syllable : SoundSyllable r → (is_clean r ≡ true) × (is_syllable_item (item_of r) ≡ true)
  unfolding is_syllable_item item_of
  told_syllable s =
      let k = told_links r 10 s.no_phone_links in
      let t = text_none s.no_text in
      let m = eq-eqb (get_or r 14 0) 0 s.unnamed in
      (t.0, rw (eq-eqb (get_or r 0 0) 2 s.kind, k.0, k.1, m, eq-eqb (get_or r 15 0) 0 s.no_source, t.1))

  phone_told : is_clean r ≡ true → is_phone_item (item_of r) ≡ true → SoundPhone r
  unfolding item_of
  phone_told c h =
      let f = phone_fields (item_of r) h in
      let k = clean_told c in
      let most = k.0 in
      let l = text_size most in
      let m = f.short in
      record {
        kind = f.kind;
        no_stress = f.stress;
        no_children = links_told r 4 f.first f.last;
        unnamed = f.mark;
        no_source = f.source;
        text = record { short = omega arith; low = text_low r 17 (get_or r 16 0) (omega arith) f.low; past_text = k.1 };
      }

  told_phone : SoundPhone r → (is_clean r ≡ true) × (is_phone_item (item_of r) ≡ true)
  unfolding is_phone_item item_of
  told_phone s =
      let short = s.text.short in
      let l = text_size (omega arith) in
      let k = told_links r 4 s.no_children in (
        told_clean (omega arith) s.text.past_text,
        rw (
          eq-eqb (get_or r 0 0) 3 s.kind,
          eq-eqb (get_or r 1 0) 0 s.no_stress,
          k.0,
          k.1,
          eq-eqb (get_or r 14 0) 0 s.unnamed,
          eq-eqb (get_or r 15 0) 0 s.no_source,
          l,
          le-leb (get_or r 16 0) 15 short,
          low_text r 17 (get_or r 16 0) (omega arith) s.text.low,
        ),
      )

  -- the decision of an item, in both directions
  pub item_sound : is_item r ≡ true → SoundItem r
  unfolding is_item fits item_of
  item_sound h =
      let b = both_true (is_clean r) (fits (item_of r)) h in
      cases (eqb (get_or r 0 0) 1)
      (λ e. word (word_told b.0 (rw e at b.1)))
      (λ e. cases (eqb (get_or r 0 0) 2)
      (λ f. syllable (syllable_told b.0 (rw (e, f) at b.1)))
      (λ f. phone (phone_told b.0 (rw (e, f) at b.1))))

  pub sound_item : SoundItem r → is_item r ≡ true
  unfolding is_item fits item_of
  sound_item (word s) = let t = told_word s in rw (t.0, eq-eqb (get_or r 0 0) 1 s.kind) t.1
  sound_item (syllable s) = let t = told_syllable s in let k = s.kind in rw (t.0, ne_eqb (get_or r 0 0) 1 (λ e. absurd (omega arith)), eq-eqb (get_or r 0 0) 2 k) t.1
  sound_item (phone s) = let t = told_phone s in let k = s.kind in rw (t.0, ne_eqb (get_or r 0 0) 1 (λ e. absurd (omega arith)), ne_eqb (get_or r 0 0) 2 (λ e. absurd (omega arith))) t.1

  -- and of item 0
  pub head_sound : is_head r ≡ true → SoundHead r
  unfolding is_head item_of
  head_sound h =
      let a = both_true (is_clean r) (is_head_item (item_of r)) h in
      let f = head_fields (item_of r) a.1 in
      record {
        kind = f.kind;
        version = version_told (get_or r 1 0) f.version;
        no_next = u16_zero r 2 f.next;
        behind = join_zero r 14 15 64 (byte_zero r 14 f.mark) (join_zero r 15 16 64 (byte_zero r 15 f.source) (no_text_lem a.0 f.text));
      }

  pub sound_head : SoundHead r → is_head r ≡ true
  unfolding is_head is_head_item item_of
  sound_head s =
      let t = text_none (λ i lo hi. s.behind i (omega arith) hi) in
      rw (
        t.0,
        eq-eqb (get_or r 0 0) 0 s.kind,
        told_version (get_or r 1 0) s.version,
        told_link r 2 s.no_next,
        eq-eqb (get_or r 14 0) 0 (s.behind 14 (omega arith) (omega arith)),
        eq-eqb (get_or r 15 0) 0 (s.behind 15 (omega arith) (omega arith)),
        t.1,
      )
