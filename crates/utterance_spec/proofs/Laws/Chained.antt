-- 01, Store and sheet: the phones among the items of a tree are its phones; so the tests over the items say that the phones are chained
-- both ways, and that each syllable has a stress of the version, and a phone. `S` gives each item.
-- Assumes nothing.
use Rattle.std.specs.Prelude.{ℕ, ◌≤◌, ◌≡◌, ◌≢◌, true, not, ◌&&◌, length}
use Rattle.std.proofs.Common.{arith, ◌∙◌}
use Rattle.std.proofs.Math.Path.{refl, sym, ap, subst}
use mathlib.Core.List.{List, [], ◌∷◌, ◌++◌, append_assoc, reverse, reverse_aux}
use Rattle.std.proofs.Math.Dec.{eqb}
use borrow.Author.Tests.{eqb-true, eqb-false, eq-eqb, ne_eqb, not-true}
use Rattle.texts.specs.Choice.{when◌then◌else◌, cases, both_true}
use Rattle.texts.specs.Lists.{every}
use Rattle.records.specs.Chain.{All, Linked}
use Rattle.versions.specs.Versions.{is_stress}
use Rattle.items_spec.specs.Item.{Item}
use Rattle.utterance_spec.specs.Tree.{SyllableAt, WordAt, phones_in, phones_at, items_in, items_at, SungIn, Sung, prev, follow, Children, Syllables, Words}
use Rattle.utterance_spec.specs.Sheet.{is_sung, is_chained}
use Rattle.utterance_spec.proofs.Laws.Ties.{Run, linked_run, run_linked, sibling_first}

module _ (S : ℕ → Item) where
  -- the phones among items
  unfoldable pub phones_of : List ℕ → List ℕ
  phones_of [] = []
  phones_of (x ∷ xs) = when eqb (S x).kind 3 then x ∷ phones_of xs else phones_of xs

  phones_first : (ps xs : List ℕ) → All (λ (x : ℕ). (S x).kind ≡ 3) ps → phones_of (ps ++ xs) ≡ ps ++ phones_of xs
  unfolding phones_of
  phones_first [] xs k = refl
  phones_first (p ∷ ps) xs k = rw k.0 (ap (λ (l : List ℕ). p ∷ l) (phones_first ps xs k.1))

  phones_in_lem : (ys : List SyllableAt) (xs : List ℕ) → Syllables S ys → phones_of (items_in ys ++ xs) ≡ phones_in ys ++ phones_of xs
  unfolding phones_of
  phones_in_lem [] xs h = refl
  phones_in_lem (y ∷ ys) xs h =
      let ih = phones_in_lem ys xs h.3 in
      let f = phones_first y.phones (items_in ys ++ xs) h.2 in
      rw (h.0, append_assoc y.phones (items_in ys) xs, append_assoc y.phones (phones_in ys) (phones_of xs), f, ih)

  pub phones_are : (ws : List WordAt) → Words S ws → phones_of (items_at ws) ≡ phones_at ws
  unfolding phones_of
  phones_are [] h = refl
  phones_are (w ∷ ws) h =
      let ih = phones_are ws h.3 in
      rw (h.0, phones_in_lem w.syllables (items_at ws) h.2, ih)

  -- what holds of each item holds of each phone
  pub all_phones : (P : ℕ → Type 0) (xs : List ℕ) → All P xs → All P (phones_of xs)
  unfolding phones_of
  all_phones P [] a = tt
  all_phones P (x ∷ xs) a =
      let ih = all_phones P xs a.1 in
      cases (eqb (S x).kind 3) (λ e. rw e (a.0, ih)) (λ e. rw e ih)

  -- each has the one before it as its previous phone, from q on, and item 0 the last
  abbrev Back : ℕ → List ℕ → Type 0
  Back q [] = (S 0).prev ≡ q
  Back q (x ∷ xs) = ((S x).prev ≡ q) × Back x xs

  back_run : (q : ℕ) (xs done : List ℕ) → All (λ (x : ℕ). x ≢ 0) xs → Back q xs → Run (prev S) q done 0 → Run (prev S) (prev S 0) (reverse_aux xs done) 0
  unfolding prev
  back_run q [] done n h r = rw h r
  back_run q (x ∷ xs) done n h r = back_run x xs (x ∷ done) n.1 h.1 (refl, n.0, rw h.0 r)

  run_back : (xs done : List ℕ) → Run (prev S) (prev S 0) (reverse_aux xs done) 0 → (q : ℕ) × Back q xs × Run (prev S) q done 0
  unfolding prev
  run_back [] done r = ((S 0).prev, refl, r)
  run_back (x ∷ xs) done r =
      let ih = run_back xs (x ∷ done) r in
      ((S x).prev, (refl, subst (λ (q : ℕ). Back q xs) ih.2.0 ih.1), ih.2.2)

  -- the test over items speaks of the phones among them
  chained_both : (q : ℕ) (xs : List ℕ) → All (λ (x : ℕ). x ≢ 0) xs → is_chained S q xs ≡ true → Linked (follow S) q (phones_of xs) × Back q (phones_of xs)
  unfolding is_chained phones_of follow
  chained_both q [] n h =
      let b = both_true (eqb (S q).follow 0) (eqb (S 0).prev q) h in
      (eqb-true (S q).follow 0 b.0, eqb-true (S 0).prev q b.1)
  chained_both q (x ∷ xs) n h =
      cases (eqb (S x).kind 3)
      (λ e.
      let b = both_true (eqb (S q).follow x && eqb (S x).prev q) (is_chained S x xs) (rw e at h) in
      let c = both_true (eqb (S q).follow x) (eqb (S x).prev q) b.0 in
      let ih = chained_both x xs n.1 b.1 in
      rw e ((eqb-true (S q).follow x c.0, n.0, ih.0), (eqb-true (S x).prev q c.1, ih.1)))
      (λ e. let ih = chained_both q xs n.1 (rw e at h) in rw e ih)

  both_chained : (q : ℕ) (xs : List ℕ) → Linked (follow S) q (phones_of xs) → Back q (phones_of xs) → is_chained S q xs ≡ true
  unfolding is_chained phones_of follow
  both_chained q [] f b = rw (eq-eqb (S q).follow 0 f, eq-eqb (S 0).prev q b)
  both_chained q (x ∷ xs) f b =
      cases (eqb (S x).kind 3)
      (λ e.
      let f₁ : Linked (follow S) q (x ∷ phones_of xs) = rw e at f in
      let b₁ : Back q (x ∷ phones_of xs) = rw e at b in
      let ih = both_chained x xs f₁.2 b₁.1 in
      rw (e, eq-eqb (S q).follow x f₁.0, eq-eqb (S x).prev q b₁.0, ih))
      (λ e. let ih = both_chained q xs (rw e at f) (rw e at b) in rw (e, ih))

  -- the phones of a tree are chained both ways, in their order and in its reverse
  pub chained : (ws : List WordAt) → Words S ws → All (λ (x : ℕ). x ≢ 0) (items_at ws) → is_chained S 0 (items_at ws) ≡ true
      → Linked (follow S) 0 (phones_at ws) × Linked (prev S) 0 (reverse (phones_at ws))
  chained ws h n t =
      let c = chained_both 0 (items_at ws) n t in
      let e = phones_are ws h in
      let r = back_run 0 (phones_of (items_at ws)) [] (all_phones (λ (x : ℕ). x ≢ 0) (items_at ws) n) c.1 refl in (
        subst (λ (l : List ℕ). Linked (follow S) 0 l) e c.0,
        subst (λ (l : List ℕ). Linked (prev S) 0 (reverse l)) e (run_linked (prev S) 0 (reverse (phones_of (items_at ws))) r),
      )

  pub is_chained_lem : (ws : List WordAt) → Words S ws → Linked (follow S) 0 (phones_at ws) → Linked (prev S) 0 (reverse (phones_at ws)) → is_chained S 0 (items_at ws) ≡ true
  is_chained_lem ws h f b =
      let e = phones_are ws h in
      let r = run_back (phones_at ws) [] (linked_run (prev S) 0 (reverse (phones_at ws)) b) in
      let k : Back 0 (phones_at ws) = subst (λ (q : ℕ). Back q (phones_at ws)) r.2 r.1 in
      both_chained 0 (items_at ws) (subst (λ (l : List ℕ). Linked (follow S) 0 l) (sym e) f) (subst (λ (l : List ℕ). Back 0 l) (sym e) k)

  some_phone : (y : ℕ) (ps : List ℕ) → Children S y ps → (S y).first ≢ 0 → 1 ≤ length ps
  some_phone y [] c n = absurd (n (sym (sibling_first S y) ∙ c.linked))
  some_phone y (p ∷ ps) c n = omega arith

  -- a syllable that is sung has a stress, and a first child where it has a phone
  module _ (v : ℕ) where
    syllable_sung : (y : ℕ) (ps : List ℕ) → (S y).kind ≡ 2 → Children S y ps → is_sung S v y ≡ true → (is_stress v (S y).stress ≡ true) × (1 ≤ length ps)
    unfolding is_sung
    syllable_sung y ps k c t =
        let b = both_true (is_stress v (S y).stress) (not (eqb (S y).first 0)) (rw k at t) in
        (b.0, some_phone y ps c (eqb-false (S y).first 0 (not-true (eqb (S y).first 0) b.1)))

    sung_syllable : (y : ℕ) (ps : List ℕ) → (S y).kind ≡ 2 → Children S y ps → is_stress v (S y).stress ≡ true → 1 ≤ length ps → is_sung S v y ≡ true
    unfolding is_sung
    sung_syllable y [] k c t l = absurd (omega arith)
    sung_syllable y (p ∷ ps) k c t l =
        let e : (S y).first ≡ p = sym (sibling_first S y) ∙ c.linked.0 in
        rw (k, t, e, ne_eqb p 0 c.linked.1)

    -- phones and words pass
    phones_pass : (ps xs : List ℕ) → All (λ (x : ℕ). (S x).kind ≡ 3) ps → every (is_sung S v) (ps ++ xs) ≡ every (is_sung S v) xs
    unfolding every is_sung
    phones_pass [] xs k = refl
    phones_pass (p ∷ ps) xs k = rw k.0 (phones_pass ps xs k.1)

    sung_in : (ys : List SyllableAt) (xs : List ℕ) → Syllables S ys → every (is_sung S v) (items_in ys ++ xs) ≡ true → SungIn S v ys × (every (is_sung S v) xs ≡ true)
    unfolding every
    sung_in [] xs h t = (tt, t)
    sung_in (y ∷ ys) xs h t =
        let b = both_true (is_sung S v y.at) (every (is_sung S v) (y.phones ++ items_in ys ++ xs)) t in
        let e = ap (every (is_sung S v)) (append_assoc y.phones (items_in ys) xs) ∙ phones_pass y.phones (items_in ys ++ xs) h.2 in
        let ih = sung_in ys xs h.3 (sym e ∙ b.1) in
        let s = syllable_sung y.at y.phones h.0 h.1 b.0 in
        ((s.0, s.1, ih.0), ih.1)

    in_sung : (ys : List SyllableAt) (xs : List ℕ) → Syllables S ys → SungIn S v ys → every (is_sung S v) xs ≡ true → every (is_sung S v) (items_in ys ++ xs) ≡ true
    unfolding every
    in_sung [] xs h f t = t
    in_sung (y ∷ ys) xs h f t =
        let e = ap (every (is_sung S v)) (append_assoc y.phones (items_in ys) xs) ∙ phones_pass y.phones (items_in ys ++ xs) h.2 in
        let ih = in_sung ys xs h.3 f.2 t in
        rw (sung_syllable y.at y.phones h.0 h.1 f.0 f.1) (e ∙ ih)

    -- each syllable of a tree is sung
    pub sung : (ws : List WordAt) → Words S ws → every (is_sung S v) (items_at ws) ≡ true → Sung S v ws
    unfolding every is_sung
    sung [] h t = tt
    sung (w ∷ ws) h t =
        let b = both_true (is_sung S v w.at) (every (is_sung S v) (items_in w.syllables ++ items_at ws)) t in
        let f = sung_in w.syllables (items_at ws) h.2 b.1 in
        (f.0, sung ws h.3 f.1)

    pub is_sung_lem : (ws : List WordAt) → Words S ws → Sung S v ws → every (is_sung S v) (items_at ws) ≡ true
    unfolding every is_sung
    is_sung_lem [] h f = refl
    is_sung_lem (w ∷ ws) h f =
        let ih = in_sung w.syllables (items_at ws) h.2 f.0 (is_sung_lem ws h.3 f.1) in
        rw h.0 ih
