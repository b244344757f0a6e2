-- 01, Store and sheet: from the walk to the tree. Items in reading order whose links agree are the items of words, syllables and phones. `S` gives each item.
-- Assumes nothing.
use Prim.Native.Nat.{ℕ, zero, suc, ◌+◌, ◌≤◌}
use Rattle.std.proofs.Common.{not-suc-le-zero, arith, ◌∙◌}
use Rattle.std.specs.Prelude.{◌≡◌, refl, ◌≢◌, true, eqb}
use Rattle.std.proofs.Math.Path.{sym, ap}
use mathlib.Core.List.{List, [], ◌∷◌, ◌++◌, append_assoc}
use Rattle.std.proofs.Math.ListN.{length, length-append}
use borrow.Author.Tests.{eqb-true, eqb-false}
use Rattle.texts.specs.Choice.{cases}
use Rattle.records.specs.Chain.{All, Linked}
use Rattle.items_spec.specs.Item.{Item}
use Rattle.utterance_spec.specs.Tree.{SyllableAt, WordAt, syllables_at, words_at, items_in, items_at, Syllables, Words, Tree}
use Rattle.utterance_spec.specs.Sheet.{after_syllable, after, is_parent, is_sibling}
use Rattle.utterance_spec.proofs.Laws.Ties.{Run, run_from, linked_run, or_else, or_up, or_on, or_none, after_phone_lem, after_syllable_lem, after_word, after_top, Tie, tie_first, tie_next, Siblings, siblings_none, siblings_more, siblings_children}

module _ (S : ℕ → Item) where
  -- an item of the walk: its links agree, and a phone has no children
  pub record Good (i : ℕ) : Type 0 where
    pub parent : is_parent S i ≡ true
    pub sibling : is_sibling S i ≡ true
    pub leaf : (S i).kind ≡ 3 → (S i).first ≡ 0

  -- the items from link c on, behind child q of its parent: first phones of syllable y, then what comes behind it
  record PhonesFrom (y q c : ℕ) (xs : List ℕ) : Type 0 where
    phones : List ℕ
    rest : List ℕ
    split : xs ≡ phones ++ rest
    here : Siblings S y 3 q c phones
    behind : Run (after S) (after_syllable S y) rest 0
    good : All Good rest

  -- first syllables of word w
  record SyllablesFrom (w q c : ℕ) (xs : List ℕ) : Type 0 where
    syllables : List SyllableAt
    rest : List ℕ
    split : xs ≡ items_in syllables ++ rest
    here : Siblings S w 2 q c (syllables_at syllables)
    each : Syllables S syllables
    behind : Run (after S) (S w).next rest 0
    good : All Good rest

  -- words
  record WordsFrom (q c : ℕ) (xs : List ℕ) : Type 0 where
    words : List WordAt
    split : xs ≡ items_at words
    here : Siblings S 0 1 q c (words_at words)
    each : Words S words

  no_phones : (y q c : ℕ) (xs : List ℕ) → c ≡ 0 → Tie S y 3 q c → Run (after S) (or_else c (after_syllable S y)) xs 0 → All Good xs → PhonesFrom y q c xs
  no_phones y q c xs e t r g =
      record { phones = []; rest = xs; split = refl; here = siblings_none S y 3 q c e t; behind = run_from (after S) _ _ xs 0 (or_up c (after_syllable S y) e) r; good = g }

  phones_more : (y q c x : ℕ) (xs : List ℕ) → c ≡ x → x ≢ 0 → (S x).parent ≡ y → (S x).kind ≡ 3 → PhonesFrom y x (S x).next xs → PhonesFrom y q c (x ∷ xs)
  phones_more y q c x xs e n p k ps =
      record {
        phones = x ∷ ps.phones;
        rest = ps.rest;
        split = rw ps.split;
        here = siblings_more S y 3 q c x ps.phones e n p k ps.here;
        behind = ps.behind;
        good = ps.good;
      }

  phones_from : (y q c : ℕ) (xs : List ℕ) → Tie S y 3 q c → Run (after S) (or_else c (after_syllable S y)) xs 0 → All Good xs → PhonesFrom y q c xs
  phones_from y q c [] t r g = no_phones y q c [] (or_none c (after_syllable S y) r) t r g
  phones_from y q c (x ∷ xs) t r g =
      cases (eqb c 0)
      (λ z. no_phones y q c (x ∷ xs) (eqb-true c 0 z) t r g)
      (λ z.
      let n : c ≢ 0 = eqb-false c 0 z in
      let e : c ≡ x = sym (or_on c (after_syllable S y) n) ∙ r.0 in
      let m = rw e at (t.more n) in
      let a : after S x ≡ or_else (S x).next (after_syllable S y) = after_phone_lem S x m.1 (g.0.leaf m.1) ∙ rw m.0 in
      let s : Tie S y 3 x (S x).next = rw (m.0, m.1) at (tie_next S x g.0.sibling) in
      let ps = phones_from y x (S x).next xs s (run_from (after S) _ _ xs 0 a r.2) g.1 in
      phones_more y q c x xs e r.1 m.0 m.1 ps)

  no_syllables : (w q c : ℕ) (xs : List ℕ) → c ≡ 0 → Tie S w 2 q c → Run (after S) (or_else c (S w).next) xs 0 → All Good xs → SyllablesFrom w q c xs
  no_syllables w q c xs e t r g =
      record { syllables = []; rest = xs; split = refl; here = siblings_none S w 2 q c e t; each = tt; behind = run_from (after S) _ _ xs 0 (or_up c (S w).next e) r; good = g }

  syllables_more : (w q c x : ℕ) (xs : List ℕ) → c ≡ x → x ≢ 0 → (S x).parent ≡ w → (S x).kind ≡ 2 → (ps : PhonesFrom x 0 (S x).first xs) → SyllablesFrom w x (S x).next ps.rest → SyllablesFrom w q c (x ∷ xs)
  syllables_more w q c x xs e n p k ps ys =
      record {
        syllables = record { at = x; phones = ps.phones } ∷ ys.syllables;
        rest = ys.rest;
        split = rw (ps.split, ys.split, append_assoc ps.phones (items_in ys.syllables) ys.rest);
        here = siblings_more S w 2 q c x (syllables_at ys.syllables) e n p k ys.here;
        each = (k, siblings_children S x 3 ps.phones (rw k (omega arith)) ps.here, ps.here.kinds, ys.each);
        behind = ys.behind;
        good = ys.good;
      }

  -- a syllable that has been met: first its phones
  syllable_from_lem : (x : ℕ) (xs : List ℕ) → (S x).kind ≡ 2 → Good x → Run (after S) (after S x) xs 0 → All Good xs → PhonesFrom x 0 (S x).first xs
  syllable_from_lem x xs k h r g =
      phones_from x 0 (S x).first xs (rw k at (tie_first S x h.parent)) (run_from (after S) _ _ xs 0 (after_syllable_lem S x k) r) g

  syllables_from_lem : (n w q c : ℕ) (xs : List ℕ) → length xs ≤ n → Tie S w 2 q c → Run (after S) (or_else c (S w).next) xs 0 → All Good xs → SyllablesFrom w q c xs
  unfolding after_syllable
  syllables_from_lem zero w q c [] l t r g = no_syllables w q c [] (or_none c (S w).next r) t r g
  syllables_from_lem zero w q c (x ∷ xs) l t r g = absurd (not-suc-le-zero l)
  syllables_from_lem (suc n) w q c [] l t r g = no_syllables w q c [] (or_none c (S w).next r) t r g
  syllables_from_lem (suc n) w q c (x ∷ xs) l t r g =
      cases (eqb c 0)
      (λ z. no_syllables w q c (x ∷ xs) (eqb-true c 0 z) t r g)
      (λ z.
      let o : c ≢ 0 = eqb-false c 0 z in
      let e : c ≡ x = sym (or_on c (S w).next o) ∙ r.0 in
      let m = rw e at (t.more o) in
      let ps = syllable_from_lem x xs m.1 g.0 r.2 g.1 in
      let i : length xs ≡ length ps.phones + length ps.rest = ap (λ (v : List ℕ). length v) ps.split ∙ length-append ps.phones ps.rest in
      let s : Tie S w 2 x (S x).next = rw (m.0, m.1) at (tie_next S x g.0.sibling) in
      let u : after_syllable S x ≡ or_else (S x).next (S w).next = rw m.0 in
      let ys = syllables_from_lem n w x (S x).next ps.rest (omega arith) s (run_from (after S) _ _ ps.rest 0 u ps.behind) ps.good in
      syllables_more w q c x xs e r.1 m.0 m.1 ps ys)

  -- a word that has been met: first its syllables
  word_from_lem : (x : ℕ) (xs : List ℕ) → (S x).kind ≡ 1 → Good x → Run (after S) (after S x) xs 0 → All Good xs → SyllablesFrom x 0 (S x).first xs
  word_from_lem x xs k h r g =
      syllables_from_lem (length xs) x 0 (S x).first xs (omega arith) (rw k at (tie_first S x h.parent)) (run_from (after S) _ _ xs 0 (after_word S x k) r) g

  no_words_lem : (q c : ℕ) → c ≡ 0 → Tie S 0 1 q c → WordsFrom q c []
  no_words_lem q c e t = record { words = []; split = refl; here = siblings_none S 0 1 q c e t; each = tt }

  words_more : (q c x : ℕ) (xs : List ℕ) → c ≡ x → x ≢ 0 → (S x).parent ≡ 0 → (S x).kind ≡ 1 → (ys : SyllablesFrom x 0 (S x).first xs) → WordsFrom x (S x).next ys.rest → WordsFrom q c (x ∷ xs)
  words_more q c x xs e n p k ys ws =
      record {
        words = record { at = x; syllables = ys.syllables } ∷ ws.words;
        split = rw (ys.split, ws.split);
        here = siblings_more S 0 1 q c x (words_at ws.words) e n p k ws.here;
        each = (k, siblings_children S x 2 (syllables_at ys.syllables) (rw k (omega arith)) ys.here, ys.each, ws.each);
      }

  words_from : (n q c : ℕ) (xs : List ℕ) → length xs ≤ n → Tie S 0 1 q c → Run (after S) c xs 0 → All Good xs → WordsFrom q c xs
  words_from zero q c [] l t r g = no_words_lem q c r t
  words_from zero q c (x ∷ xs) l t r g = absurd (not-suc-le-zero l)
  words_from (suc n) q c [] l t r g = no_words_lem q c r t
  words_from (suc n) q c (x ∷ xs) l t r g =
      let e : c ≡ x = r.0 in
      let m = rw e at (t.more (λ z. r.1 (sym e ∙ z))) in
      let ys = word_from_lem x xs m.1 g.0 r.2 g.1 in
      let i : length xs ≡ length (items_in ys.syllables) + length ys.rest = ap (λ (v : List ℕ). length v) ys.split ∙ length-append (items_in ys.syllables) ys.rest in
      let s : Tie S 0 1 x (S x).next = rw (m.0, m.1) at (tie_next S x g.0.sibling) in
      let ws = words_from n x (S x).next ys.rest (omega arith) s ys.behind ys.good in
      words_more q c x xs e r.1 m.0 m.1 ys ws

  -- the walk from item 0 on finds the tree
  pub parsed : (xs : List ℕ) → (S 0).kind ≡ 0 → (S 0).next ≡ 0 → is_parent S 0 ≡ true → Linked (after S) 0 xs → All Good xs → (ws : List WordAt) × Tree S ws × (xs ≡ items_at ws)
  parsed xs k n h l g =
      let ws = words_from (length xs) 0 (S 0).first xs (omega arith) (rw k at (tie_first S 0 h)) (run_from (after S) _ _ xs 0 (after_top S k n) (linked_run (after S) 0 xs l)) g in
      (ws.words, record { top = siblings_children S 0 1 (words_at ws.words) (rw k (omega arith)) ws.here; words = ws.each }, ws.split)
