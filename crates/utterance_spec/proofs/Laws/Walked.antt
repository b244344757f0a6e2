-- 01, Store and sheet: from the tree to the walk. The items of a tree stand in one chain of `after`, and their links agree. `S` gives each item.
-- Assumes nothing.
use Rattle.std.specs.Prelude.{ℕ, ◌≡◌, ◌≢◌, true}
use Rattle.std.proofs.Common.{arith, sym, ◌∙◌}
use mathlib.Core.List.{List, [], ◌∷◌}
use Rattle.records.specs.Chain.{All, Linked, all_left, all_right, all_append}
use Rattle.items_spec.specs.Item.{Item}
use Rattle.utterance_spec.specs.Tree.{SyllableAt, WordAt, syllables_at, words_at, items_in, items_at, Children, Syllables, Words, Tree}
use Rattle.utterance_spec.specs.Sheet.{after_syllable, after, is_parent, is_sibling}
use Rattle.utterance_spec.proofs.Laws.Ties.{Run, run_from, run_append, run_linked, or_else, or_up, or_on, after_phone_lem, after_syllable_lem, after_word, after_top, first_tie, Siblings, siblings_rest, siblings_tie, siblings_are, children_siblings}
use Rattle.utterance_spec.proofs.Laws.Parsed.{Good}

module _ (S : ℕ → Item) where
  -- a phone has no children
  abbrev pub Leaf : ℕ → Type 0
  Leaf i = (S i).kind ≡ 3 → ((S i).first ≡ 0) × ((S i).last ≡ 0)

  pub syllable_kinds : (ys : List SyllableAt) → Syllables S ys → All (λ (y : ℕ). (S y).kind ≡ 2) (syllables_at ys)
  syllable_kinds [] h = tt
  syllable_kinds (y ∷ ys) h = (h.0, syllable_kinds ys h.3)

  pub word_kinds : (ws : List WordAt) → Words S ws → All (λ (w : ℕ). (S w).kind ≡ 1) (words_at ws)
  word_kinds [] h = tt
  word_kinds (w ∷ ws) h = (h.0, word_kinds ws h.3)

  -- the children of a syllable, and of a word
  of_syllable : (y : SyllableAt) → (S y.at).kind ≡ 2 → Children S y.at y.phones → All (λ (x : ℕ). (S x).kind ≡ 3) y.phones → Siblings S y.at 3 0 (S y.at).first y.phones
  of_syllable y k c a = children_siblings S y.at 3 y.phones (rw k (omega arith)) a c

  of_word : (w : WordAt) → (S w.at).kind ≡ 1 → Children S w.at (syllables_at w.syllables) → Syllables S w.syllables → Siblings S w.at 2 0 (S w.at).first (syllables_at w.syllables)
  of_word w k c h = children_siblings S w.at 2 (syllables_at w.syllables) (rw k (omega arith)) (syllable_kinds w.syllables h) c

  -- the link to a child that is there
  arrives : (c u x : ℕ) → c ≡ x → x ≢ 0 → or_else c u ≡ x
  arrives c u x e n = or_on c u (λ z. n (sym e ∙ z)) ∙ e

  -- the way from link c on through phones, syllables and words
  phones_run : (y q c : ℕ) (ps : List ℕ) → Siblings S y 3 q c ps → All Leaf ps → Run (after S) (or_else c (after_syllable S y)) ps (after_syllable S y)
  phones_run y q c [] s l = or_up c (after_syllable S y) s.run
  phones_run y q c (x ∷ xs) s l =
      let u = after_syllable S y in
      let a : after S x ≡ or_else (S x).next u = after_phone_lem S x s.kinds.0 (l.0 s.kinds.0).0 ∙ rw s.parents.0 in
      let ih = phones_run y x (S x).next xs (siblings_rest S y 3 q c x xs s) l.1 in
      (arrives c u x s.run.0 s.run.1, s.run.1, run_from (after S) _ _ xs u (sym a) ih)

  syllables_run : (w q c : ℕ) (ys : List SyllableAt) → Siblings S w 2 q c (syllables_at ys) → Syllables S ys → All Leaf (items_in ys) → Run (after S) (or_else c (S w).next) (items_in ys) (S w).next
  unfolding after_syllable
  syllables_run w q c [] s h l = or_up c (S w).next s.run
  syllables_run w q c (y ∷ ys) s h l =
      let i = y.at in
      let u = (S w).next in
      let ps = phones_run i 0 (S i).first y.phones (of_syllable y h.0 h.1 h.2) (all_left Leaf y.phones (items_in ys) l.1) in
      let b : after_syllable S i ≡ or_else (S i).next u = rw s.parents.0 in
      let ih = syllables_run w i (S i).next ys (siblings_rest S w 2 q c i (syllables_at ys) s) h.3 (all_right Leaf y.phones (items_in ys) l.1) in (
        arrives c u i s.run.0 s.run.1,
        s.run.1,
        run_append (after S) (after S i) y.phones (items_in ys) (after_syllable S i) u
            (run_from (after S) _ _ y.phones (after_syllable S i) (sym (after_syllable_lem S i h.0)) ps)
            (run_from (after S) _ _ (items_in ys) u (sym b) ih),
      )

  words_run : (q c : ℕ) (ws : List WordAt) → Siblings S 0 1 q c (words_at ws) → Words S ws → All Leaf (items_at ws) → Run (after S) c (items_at ws) 0
  words_run q c [] s h l = s.run
  words_run q c (w ∷ ws) s h l =
      let i = w.at in
      let is = items_in w.syllables in
      let ys = syllables_run i 0 (S i).first w.syllables (of_word w h.0 h.1 h.2) h.2 (all_left Leaf is (items_at ws) l.1) in
      let ih = words_run i (S i).next ws (siblings_rest S 0 1 q c i (words_at ws) s) h.3 (all_right Leaf is (items_at ws) l.1) in (
        s.run.0,
        s.run.1,
        run_append (after S) (after S i) is (items_at ws) (S i).next 0 (run_from (after S) _ _ is (S i).next (sym (after_word S i h.0)) ys) ih,
      )

  -- the links of each item agree
  phones_good : (ps : List ℕ) → All (λ (x : ℕ). is_sibling S x ≡ true) ps → All (λ (x : ℕ). (S x).kind ≡ 3) ps → All Leaf ps → All (Good S) ps
  phones_good [] s k l = tt
  phones_good (x ∷ xs) s k l =
      let z = l.0 k.0 in (
        record { parent = first_tie S x (record { end = λ e. z.1; more = λ n. absurd (n z.0) }); sibling = s.0; leaf = λ e. z.0 },
        phones_good xs s.1 k.1 l.1,
      )

  syllables_good : (ys : List SyllableAt) → All (λ (x : ℕ). is_sibling S x ≡ true) (syllables_at ys) → Syllables S ys → All Leaf (items_in ys) → All (Good S) (items_in ys)
  syllables_good [] s h l = tt
  syllables_good (y ∷ ys) s h l =
      let i = y.at in
      let c = of_syllable y h.0 h.1 h.2 in
      let ps = phones_good y.phones (siblings_are S i 3 0 (S i).first y.phones c) h.2 (all_left Leaf y.phones (items_in ys) l.1) in
      let ih = syllables_good ys s.1 h.3 (all_right Leaf y.phones (items_in ys) l.1) in
      let k = h.0 in (
        record { parent = first_tie S i (rw k (siblings_tie S i 3 0 (S i).first y.phones c)); sibling = s.0; leaf = λ e. absurd (omega arith) },
        all_append (Good S) y.phones (items_in ys) ps ih,
      )

  words_good : (ws : List WordAt) → All (λ (x : ℕ). is_sibling S x ≡ true) (words_at ws) → Words S ws → All Leaf (items_at ws) → All (Good S) (items_at ws)
  words_good [] s h l = tt
  words_good (w ∷ ws) s h l =
      let i = w.at in
      let is = items_in w.syllables in
      let c = of_word w h.0 h.1 h.2 in
      let ys = syllables_good w.syllables (siblings_are S i 2 0 (S i).first (syllables_at w.syllables) c) h.2 (all_left Leaf is (items_at ws) l.1) in
      let ih = words_good ws s.1 h.3 (all_right Leaf is (items_at ws) l.1) in
      let k = h.0 in (
        record { parent = first_tie S i (rw k (siblings_tie S i 2 0 (S i).first (syllables_at w.syllables) c)); sibling = s.0; leaf = λ e. absurd (omega arith) },
        all_append (Good S) is (items_at ws) ys ih,
      )

  -- the tree is walked from item 0 on
  pub walked : (ws : List WordAt) → (S 0).kind ≡ 0 → (S 0).next ≡ 0 → Tree S ws → All Leaf (items_at ws) → (is_parent S 0 ≡ true) × Linked (after S) 0 (items_at ws) × All (Good S) (items_at ws)
  walked ws k n t l =
      let c = children_siblings S 0 1 (words_at ws) (rw k (omega arith)) (word_kinds ws t.words) t.top in (
        first_tie S 0 (rw k (siblings_tie S 0 1 0 (S 0).first (words_at ws) c)),
        run_linked (after S) 0 (items_at ws) (run_from (after S) _ _ (items_at ws) 0 (sym (after_top S k n)) (words_run 0 (S 0).first ws c t.words l)),
        words_good ws (siblings_are S 0 1 0 (S 0).first (words_at ws) c) t.words l,
      )
