-- Items written whole, one after another: each stands at its place, and no other item changes. The items of a word that was said are sound by themselves.
-- Assumes nothing.
use Rattle.std.specs.Prelude.{ℕ, ◌+◌, ◌*◌, ◌≤◌, ◌≡◌, refl, true, ◌&&◌, List, [], ◌∷◌, ◌++◌, leb, length}
use Rattle.std.proofs.Common.{add-one, arith, ap, ◌∙◌, subst, leb-true}
use Rattle.texts.specs.Choice.{both_true}
use Rattle.texts.specs.Lists.{every, from}
use Rattle.texts.specs.Text.{ascii, is_word, word_short, is_phone}
use Rattle.records.specs.Records.{record_at, put_record, length_put_record, put_record_same, put_record_other}
use Rattle.records.specs.Chain.{All, end_of}
use Rattle.versions.specs.Versions.{is_stress}
use Rattle.items_spec.specs.Item.{Item, item, item_of, is_source, is_word_item, is_syllable_item, is_phone_item, fits, is_item}
use Rattle.items_spec.proofs.Laws.Written.{length_item, item_back, item_clean}
use Rattle.utterance_spec.specs.Tree.{Syllable, Word, SyllableAt, phones_in}
use Rattle.utterance_spec.specs.Sheet.{at}
use Rattle.utterance_spec.specs.Append.{head_or, numbered, phone_items, syllable_items, word_items, put_items, is_syllable, is_said}
use Rattle.utterance_spec.proofs.Laws.Said.{Are}

-- items whose texts have their place and that fit their kind
abbrev pub Good : List Item → Type 0
Good [] = Unit {0}
Good (i ∷ is) = (length i.text ≤ 47) × (fits i ≡ true) × Good is

good_append : (is js : List Item) → Good is → Good js → Good (is ++ js)
good_append [] js h k = k
good_append (i ∷ is) js h k = (h.0, h.1, good_append is js h.2 k)

-- the items of what may be said
phones_good : (y q a : ℕ) (xs : List ℕ) (ps : List (List ℕ)) → every is_phone ps ≡ true → Good (phone_items y q a xs ps)
unfolding phone_items every is_phone fits is_phone_item
phones_good y q a [] ps h = tt
phones_good y q a (x ∷ xs) [] h = tt
phones_good y q a (x ∷ xs) (p ∷ ps) h =
    let b = both_true (is_phone p) (every is_phone ps) h in
    let l = leb-true (length p) 15 (both_true (leb (length p) 15) (ascii p) b.0).0 in
    (omega arith, b.0, phones_good y x a xs ps b.1)

syllables_good : (v w q : ℕ) (ss : List SyllableAt) (ys : List Syllable) → every (is_syllable v) ys ≡ true → Good (syllable_items w q ss ys)
unfolding syllable_items every fits is_syllable is_syllable_item
syllables_good v w q [] ys h = tt
syllables_good v w q (s ∷ ss) [] h = tt
syllables_good v w q (s ∷ ss) (y ∷ ys) h =
    let b = both_true (is_stress v y.stress && leb 1 (length y.phones) && every is_phone y.phones) (every (is_syllable v) ys) h in
    let p = both_true (is_stress v y.stress && leb 1 (length y.phones)) (every is_phone y.phones) b.0 in (
      omega arith,
      refl,
      good_append (phone_items s.at q (head_or 0 (phones_in ss)) s.phones y.phones) (syllable_items w (end_of q s.phones) ss ys)
          (phones_good s.at q (head_or 0 (phones_in ss)) s.phones y.phones p.1) (syllables_good v w (end_of q s.phones) ss ys b.1),
    )

pub said_parts : (v : ℕ) (w : Word) → is_said v w ≡ true
    → (is_word w.text ≡ true) × (is_source w.source ≡ true) × (every (is_syllable v) w.syllables ≡ true)
unfolding is_said
said_parts v w h =
    let a = both_true (is_word w.text && is_source w.source) (every (is_syllable v) w.syllables) h in
    let b = both_true (is_word w.text) (is_source w.source) a.0 in
    (b.0, b.1, a.1)

pub word_good : (v n q : ℕ) (w : Word) → is_said v w ≡ true → Good (word_items n q w)
unfolding word_items fits is_word_item
word_good v n q w h =
    let b = said_parts v w h in
    (word_short w.text b.0, rw (b.0, b.1), syllables_good v n q (numbered (n + 1) w.syllables) w.syllables b.2)

-- these items stand whole at these places
abbrev pub Wrote : List ℕ → List ℕ → List Item → Type 0
Wrote c [] is = Unit {0}
Wrote c (x ∷ xs) [] = ⊥
Wrote c (x ∷ xs) (i ∷ is) = (record_at 64 c x ≡ item i) × Wrote c xs is

pub wrote_are : (c : List ℕ) (xs : List ℕ) (is : List Item) → Wrote c xs is → Are (at c) xs is
unfolding at
wrote_are c [] is h = tt
wrote_are c (x ∷ xs) [] h = h
wrote_are c (x ∷ xs) (i ∷ is) h = (ap item_of h.0 ∙ item_back i, wrote_are c xs is h.1)

pub wrote_items : (c : List ℕ) (xs : List ℕ) (is : List Item) → Good is → Wrote c xs is → All (λ (x : ℕ). is_item (record_at 64 c x) ≡ true) xs
unfolding is_item
wrote_items c [] is g h = tt
wrote_items c (x ∷ xs) [] g h = absurd h
wrote_items c (x ∷ xs) (i ∷ is) g h = (rw (h.0, item_clean i g.0, item_back i) g.1, wrote_items c xs is g.2 h.1)

-- items that are kept stay written
pub wrote_kept : (b c : List ℕ) (xs : List ℕ) (is : List Item) → All (λ (x : ℕ). record_at 64 c x ≡ record_at 64 b x) xs → Wrote b xs is → Wrote c xs is
wrote_kept b c [] is k h = tt
wrote_kept b c (x ∷ xs) [] k h = h
wrote_kept b c (x ∷ xs) (i ∷ is) k h = (k.0 ∙ h.0, wrote_kept b c xs is k.1 h.1)

-- what writing them leaves
pub length_wrote : (b : List ℕ) (k : ℕ) (is : List Item) → Good is → 64 * (k + length is) ≤ length b → length (put_items b k is) ≡ length b
unfolding put_items
length_wrote b k [] g h = refl
length_wrote b k (i ∷ is) g h =
    let e : length (put_record 64 b k (item i)) ≡ length b = length_put_record 64 b k (item i) (omega arith) (length_item i g.0) in
    length_wrote (put_record 64 b k (item i)) (k + 1) is g.2 (omega arith) ∙ e

pub wrote_other : (b : List ℕ) (k : ℕ) (is : List Item) → Good is → 64 * (k + length is) ≤ length b
    → (j : ℕ) → (k ≤ j → k + length is ≤ j) → record_at 64 (put_items b k is) j ≡ record_at 64 b j
unfolding put_items
wrote_other b k [] g h j out = refl
wrote_other b k (i ∷ is) g h j out =
    let e : length (put_record 64 b k (item i)) ≡ length b = length_put_record 64 b k (item i) (omega arith) (length_item i g.0) in
    wrote_other (put_record 64 b k (item i)) (k + 1) is g.2 (omega arith) j (λ l. let o = out (omega arith) in omega arith)
    ∙ put_record_other 64 b k (item i) (omega arith) (length_item i g.0) j (λ z. let o = out (omega arith) in absurd (omega arith))

pub wrote_new : (b : List ℕ) (k : ℕ) (is : List Item) → Good is → 64 * (k + length is) ≤ length b → Wrote (put_items b k is) (from k (length is)) is
unfolding put_items from
wrote_new b k [] g h = tt
wrote_new b k (i ∷ is) g h =
    let e : length (put_record 64 b k (item i)) ≡ length b = length_put_record 64 b k (item i) (omega arith) (length_item i g.0) in
    let ih = wrote_new (put_record 64 b k (item i)) (k + 1) is g.2 (omega arith) in (
      wrote_other (put_record 64 b k (item i)) (k + 1) is g.2 (omega arith) k (λ l. absurd (omega arith))
          ∙ put_record_same 64 b k (item i) (omega arith) (length_item i g.0),
      subst (λ (m : ℕ). Wrote (put_items (put_record 64 b k (item i)) (k + 1) is) (from m (length is)) is) (add-one k) ih,
    )
