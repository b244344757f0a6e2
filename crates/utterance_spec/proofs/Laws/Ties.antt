-- 01, Store and sheet: runs of items from one on, and what the links of an item say of its first child and its next sibling. `S` gives each item.
-- Assumes nothing.
use Rattle.std.specs.Prelude.{ℕ, ◌+◌, ◌≡◌, refl, ◌≢◌, true, eqb}
use Rattle.std.proofs.Common.{sym, ◌∙◌, subst}
use mathlib.Core.List.{List, [], ◌∷◌, ◌++◌}
use borrow.Author.Tests.{eqb-true, eqb-false, eq-eqb, ne_eqb}
use Rattle.texts.specs.Choice.{when◌then◌else◌, cases, both_true}
use Rattle.records.specs.Chain.{All, Linked, end_of, all_map}
use Rattle.items_spec.specs.Item.{Item}
use Rattle.utterance_spec.specs.Tree.{sibling, Children}
use Rattle.utterance_spec.specs.Sheet.{after_syllable, after_phone, beyond, after, is_parent, is_sibling}

-- from a on f passes these, and comes to d
abbrev pub Run : (ℕ → ℕ) → ℕ → List ℕ → ℕ → Type 0
Run f a [] d = a ≡ d
Run f a (x ∷ xs) d = (a ≡ x) × (x ≢ 0) × Run f (f x) xs d

pub run_from : (f : ℕ → ℕ) (a b : ℕ) (xs : List ℕ) (d : ℕ) → a ≡ b → Run f a xs d → Run f b xs d
run_from f a b xs d e h = subst (λ (r : ℕ). Run f r xs d) e h

pub run_append : (f : ℕ → ℕ) (a : ℕ) (xs ys : List ℕ) (d e : ℕ) → Run f a xs d → Run f d ys e → Run f a (xs ++ ys) e
run_append f a [] ys d e h k = run_from f d a ys e (sym h) k
run_append f a (x ∷ xs) ys d e h k = (h.0, h.1, run_append f (f x) xs ys d e h.2 k)

-- two ways on that agree at each item
pub run_same : (f g : ℕ → ℕ) (a : ℕ) (xs : List ℕ) (d : ℕ) → All (λ (x : ℕ). f x ≡ g x) xs → Run f a xs d → Run g a xs d
run_same f g a [] d s h = h
run_same f g a (x ∷ xs) d s h = (h.0, h.1, run_from g (f x) (g x) xs d s.0 (run_same f g (f x) xs d s.1 h.2))

-- a chain is a run to 0
pub run_linked : (f : ℕ → ℕ) (p : ℕ) (xs : List ℕ) → Run f (f p) xs 0 → Linked f p xs
run_linked f p [] h = h
run_linked f p (x ∷ xs) h = (h.0, h.1, run_linked f x xs h.2)

pub linked_run : (f : ℕ → ℕ) (p : ℕ) (xs : List ℕ) → Linked f p xs → Run f (f p) xs 0
linked_run f p [] h = h
linked_run f p (x ∷ xs) h = (h.0, h.1, linked_run f x xs h.2)

-- a link, or where there is none the way up
abbrev pub or_else : ℕ → ℕ → ℕ
or_else c u = when eqb c 0 then u else c

pub or_up : (c u : ℕ) → c ≡ 0 → or_else c u ≡ u
or_up c u e = rw (eq-eqb c 0 e)

pub or_on : (c u : ℕ) → c ≢ 0 → or_else c u ≡ c
or_on c u n = rw (ne_eqb c 0 n)

pub or_none : (c u : ℕ) → or_else c u ≡ 0 → c ≡ 0
or_none c u h = cases (eqb c 0) (λ e. eqb-true c 0 e) (λ e. sym (or_on c u (eqb-false c 0 e)) ∙ h)

pub or_zero : (c : ℕ) → or_else c 0 ≡ c
or_zero c = cases (eqb c 0) (λ e. or_up c 0 (eqb-true c 0 e) ∙ sym (eqb-true c 0 e)) (λ e. or_on c 0 (eqb-false c 0 e))

module _ (S : ℕ → Item) where
  abbrev pub next : ℕ → ℕ
  next i = (S i).next

  -- the next item in reading order, by kind
  pub after_phone_lem : (x : ℕ) → (S x).kind ≡ 3 → (S x).first ≡ 0 → after S x ≡ or_else (S x).next (after_syllable S (S x).parent)
  unfolding after beyond after_phone
  after_phone_lem x k f = rw (f, k)

  pub after_syllable_lem : (y : ℕ) → (S y).kind ≡ 2 → after S y ≡ or_else (S y).first (after_syllable S y)
  unfolding after beyond
  after_syllable_lem y k = rw k

  pub after_word : (w : ℕ) → (S w).kind ≡ 1 → after S w ≡ or_else (S w).first (S w).next
  unfolding after beyond
  after_word w k = rw k

  pub after_top : (S 0).kind ≡ 0 → (S 0).next ≡ 0 → after S 0 ≡ (S 0).first
  unfolding after beyond
  after_top k n = rw (k, n) (or_zero (S 0).first)

  -- link c, behind child q of p: a child of kind k, or none where q is the last; q is 0 before the first
  pub record Tie (p k q c : ℕ) : Type 0 where
    pub end : c ≡ 0 → (S p).last ≡ q
    pub more : c ≢ 0 → ((S c).parent ≡ p) × ((S c).kind ≡ k)

  pub tie_first : (i : ℕ) → is_parent S i ≡ true → Tie i ((S i).kind + 1) 0 (S i).first
  unfolding is_parent
  tie_first i h =
      record {
        end = λ e. eqb-true (S i).last 0 (rw (eq-eqb (S i).first 0 e) at h);
        more = λ n.
            let b = both_true (eqb (S (S i).first).parent i) (eqb (S (S i).first).kind ((S i).kind + 1)) (rw (ne_eqb (S i).first 0 n) at h) in
            (eqb-true (S (S i).first).parent i b.0, eqb-true (S (S i).first).kind ((S i).kind + 1) b.1);
      }

  pub first_tie : (i : ℕ) → Tie i ((S i).kind + 1) 0 (S i).first → is_parent S i ≡ true
  unfolding is_parent
  first_tie i t =
      cases (eqb (S i).first 0)
      (λ e. rw e (eq-eqb (S i).last 0 (t.end (eqb-true (S i).first 0 e))))
      (λ e.
      let m = t.more (eqb-false (S i).first 0 e) in
      rw (e, eq-eqb (S (S i).first).parent i m.0, eq-eqb (S (S i).first).kind ((S i).kind + 1) m.1))

  pub tie_next : (i : ℕ) → is_sibling S i ≡ true → Tie (S i).parent (S i).kind i (S i).next
  unfolding is_sibling
  tie_next i h =
      record {
        end = λ e. eqb-true (S (S i).parent).last i (rw (eq-eqb (S i).next 0 e) at h);
        more = λ n.
            let b = both_true (eqb (S (S i).next).parent (S i).parent) (eqb (S (S i).next).kind (S i).kind) (rw (ne_eqb (S i).next 0 n) at h) in
            (eqb-true (S (S i).next).parent (S i).parent b.0, eqb-true (S (S i).next).kind (S i).kind b.1);
      }

  pub next_tie : (i : ℕ) → Tie (S i).parent (S i).kind i (S i).next → is_sibling S i ≡ true
  unfolding is_sibling
  next_tie i t =
      cases (eqb (S i).next 0)
      (λ e. rw e (eq-eqb (S (S i).parent).last i (t.end (eqb-true (S i).next 0 e))))
      (λ e.
      let m = t.more (eqb-false (S i).next 0 e) in
      rw (e, eq-eqb (S (S i).next).parent (S i).parent m.0, eq-eqb (S (S i).next).kind (S i).kind m.1))

  -- from link c on, behind child q of p, these are the children of p, all of kind k
  pub record Siblings (p k q c : ℕ) (xs : List ℕ) : Type 0 where
    pub run : Run next c xs 0
    pub last : (S p).last ≡ end_of q xs
    pub parents : All (λ (x : ℕ). (S x).parent ≡ p) xs
    pub kinds : All (λ (x : ℕ). (S x).kind ≡ k) xs

  pub siblings_none : (p k q c : ℕ) → c ≡ 0 → Tie p k q c → Siblings p k q c []
  unfolding end_of
  siblings_none p k q c e t = record { run = e; last = t.end e; parents = tt; kinds = tt }

  pub siblings_more : (p k q c x : ℕ) (xs : List ℕ) → c ≡ x → x ≢ 0 → (S x).parent ≡ p → (S x).kind ≡ k → Siblings p k x (S x).next xs → Siblings p k q c (x ∷ xs)
  unfolding end_of
  siblings_more p k q c x xs e n ep ek s = record { run = (e, n, s.run); last = s.last; parents = (ep, s.parents); kinds = (ek, s.kinds) }

  -- the other way: the links that such children have
  pub siblings_tie : (p k q c : ℕ) (xs : List ℕ) → Siblings p k q c xs → Tie p k q c
  unfolding end_of
  siblings_tie p k q c [] s = record { end = λ e. s.last; more = λ n. absurd (n s.run) }
  siblings_tie p k q c (x ∷ xs) s =
      let e = s.run.0 in
      record { end = λ z. absurd (s.run.1 (sym e ∙ z)); more = λ n. rw e (s.parents.0, s.kinds.0) }

  pub siblings_rest : (p k q c x : ℕ) (xs : List ℕ) → Siblings p k q c (x ∷ xs) → Siblings p k x (S x).next xs
  unfolding end_of
  siblings_rest p k q c x xs s = record { run = s.run.2; last = s.last; parents = s.parents.1; kinds = s.kinds.1 }

  pub siblings_are : (p k q c : ℕ) (xs : List ℕ) → Siblings p k q c xs → All (λ (x : ℕ). is_sibling S x ≡ true) xs
  siblings_are p k q c [] s = tt
  siblings_are p k q c (x ∷ xs) s =
      let t = siblings_rest p k q c x xs s in
      (next_tie x (rw (s.parents.0, s.kinds.0) (siblings_tie p k x (S x).next xs t)), siblings_are p k x (S x).next xs t)

  -- p is none of its children, since its kind is another
  sibling_next : (p k : ℕ) (xs : List ℕ) → (S p).kind ≢ k → All (λ (x : ℕ). (S x).kind ≡ k) xs → All (λ (x : ℕ). sibling S p x ≡ next x) xs
  unfolding sibling
  sibling_next p k xs n a =
      all_map (λ (x : ℕ). (S x).kind ≡ k) (λ (x : ℕ). sibling S p x ≡ next x) xs
      (λ x e. rw (ne_eqb x p (λ z. n (subst (λ (y : ℕ). (S y).kind ≡ k) z e)))) a

  pub sibling_first : (p : ℕ) → sibling S p p ≡ (S p).first
  unfolding sibling
  sibling_first p = rw (eq-eqb p p refl)

  pub siblings_children : (p k : ℕ) (xs : List ℕ) → (S p).kind ≢ k → Siblings p k 0 (S p).first xs → Children S p xs
  siblings_children p k xs n s =
      let same = all_map (λ (x : ℕ). sibling S p x ≡ next x) (λ (x : ℕ). next x ≡ sibling S p x) xs (λ x e. sym e) (sibling_next p k xs n s.kinds) in
      let r = run_same next (sibling S p) (S p).first xs 0 same s.run in
      record {
        linked = run_linked (sibling S p) p xs (run_from (sibling S p) (S p).first (sibling S p p) xs 0 (sym (sibling_first p)) r);
        last = s.last;
        parents = s.parents;
      }

  pub children_siblings : (p k : ℕ) (xs : List ℕ) → (S p).kind ≢ k → All (λ (x : ℕ). (S x).kind ≡ k) xs → Children S p xs → Siblings p k 0 (S p).first xs
  children_siblings p k xs n a c =
      let r = run_from (sibling S p) (sibling S p p) (S p).first xs 0 (sibling_first p) (linked_run (sibling S p) p xs c.linked) in
      record { run = run_same (sibling S p) next (S p).first xs 0 (sibling_next p k xs n a) r; last = c.last; parents = c.parents; kinds = a }
