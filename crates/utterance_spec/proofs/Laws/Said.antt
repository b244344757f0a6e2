-- The items of a word as they are written: they are a word with its syllables and phones, chained both ways, and say what was said.
-- Assumes nothing.
use Prim.Native.Nat.{ℕ, suc, ◌+◌}
use Rattle.std.proofs.Common.{arith, ◌∙◌, length-append, eq-eqb, ne_eqb}
use Rattle.std.specs.Prelude.{◌≡◌, ◌≢◌, length}
use Rattle.std.proofs.Math.Path.{refl, sym, ap, subst}
use mathlib.Core.List.{List, [], ◌∷◌, ◌++◌, map}
use Rattle.texts.specs.Lists.{from}
use Rattle.records.specs.Chain.{All, Distinct, end_of, all_map, all_left, all_right}
use Rattle.items_spec.specs.Item.{Item}
use Rattle.utterance_spec.specs.Tree.{Syllable, Word, SyllableAt, syllables_at, phones_in, items_in, sibling, prev, follow, Children, Syllables, Words, text_at, syllable_at, word_at}
use Rattle.utterance_spec.specs.Append.{head_or, size, numbered, place_of, phone_items, syllable_items, word_items}
use Rattle.utterance_spec.proofs.Laws.Behind.{Onto, Backed, onto_append, onto_frame, onto_linked, backed_append, distinct_right}
use Rattle.utterance_spec.proofs.Laws.Places.{Alike, all_syllables, numbered_alike, word_items_lem}

-- how many items there are
pub length_phones : (y q a : ℕ) (xs : List ℕ) (ps : List (List ℕ)) → length xs ≡ length ps → length (phone_items y q a xs ps) ≡ length xs
unfolding phone_items
length_phones y q a [] ps l = refl
length_phones y q a (x ∷ xs) [] l = absurd (omega arith)
length_phones y q a (x ∷ xs) (p ∷ ps) l = ap suc (length_phones y x a xs ps (omega arith))

pub length_syllables : (w q : ℕ) (ss : List SyllableAt) (ys : List Syllable) → Alike ss ys → length (syllable_items w q ss ys) ≡ length (items_in ss)
unfolding syllable_items
length_syllables w q [] ys l = refl
length_syllables w q (s ∷ ss) [] l = absurd l
length_syllables w q (s ∷ ss) (y ∷ ys) l =
    ap suc (
    length-append (phone_items s.at q (head_or 0 (phones_in ss)) s.phones y.phones) (syllable_items w (end_of q s.phones) ss ys)
    ∙ rw (length_phones s.at q (head_or 0 (phones_in ss)) s.phones y.phones l.0, length_syllables w (end_of q s.phones) ss ys l.1)
    (sym (length-append s.phones (items_in ss)))
    )

-- items stand at these places
abbrev pub Are : (ℕ → Item) → List ℕ → List Item → Type 0
Are T [] is = Unit {0}
Are T (x ∷ xs) [] = ⊥
Are T (x ∷ xs) (i ∷ is) = (T x ≡ i) × Are T xs is

pub are_split : (T : ℕ → Item) (xs ys : List ℕ) (is js : List Item) → length is ≡ length xs → Are T (xs ++ ys) (is ++ js) → Are T xs is × Are T ys js
are_split T [] ys [] js l h = (tt, h)
are_split T [] ys (i ∷ is) js l h = absurd (omega arith)
are_split T (x ∷ xs) ys [] js l h = absurd (omega arith)
are_split T (x ∷ xs) ys (i ∷ is) js l h = let r = are_split T xs ys is js (omega arith) h.1 in ((h.0, r.0), r.1)

module _ (T : ℕ → Item) where
  -- children of y, each with its next
  children_new : (y : ℕ) (xs : List ℕ) → (T y).first ≡ head_or 0 xs → (T y).last ≡ end_of 0 xs → All (λ (x : ℕ). x ≢ 0) xs → All (λ (x : ℕ). y ≢ x) xs
      → Onto (λ (x : ℕ). (T x).next) 0 xs → All (λ (x : ℕ). (T x).parent ≡ y) xs → Children T y xs
  unfolding sibling
  children_new y xs f l r d n p =
      record {
        linked = onto_linked (sibling T y) y xs (rw (eq-eqb y y refl) f) r
            (onto_frame (λ (x : ℕ). (T x).next) (sibling T y) 0 xs
            (all_map (λ (x : ℕ). y ≢ x) (λ (x : ℕ). sibling T y x ≡ (T x).next) xs (λ x ne. rw (ne_eqb x y (λ e. ne (sym e)))) d) n);
        last = l;
        parents = p;
      }

  -- the phones of syllable y
  pub record Phones (y q a : ℕ) (xs : List ℕ) (ps : List (List ℕ)) : Type 0 where
    pub kinds : All (λ (x : ℕ). (T x).kind ≡ 3) xs
    pub parents : All (λ (x : ℕ). (T x).parent ≡ y) xs
    pub nexts : Onto (λ (x : ℕ). (T x).next) 0 xs
    pub follows : Onto (follow T) a xs
    pub prevs : Backed (prev T) q xs
    pub says : map (text_at T) xs ≡ ps

  phones_new : (y q a : ℕ) (xs : List ℕ) (ps : List (List ℕ)) → length xs ≡ length ps → Are T xs (phone_items y q a xs ps) → Phones y q a xs ps
  unfolding phone_items follow prev
  phones_new y q a [] [] l h = record { kinds = tt; parents = tt; nexts = tt; follows = tt; prevs = tt; says = refl }
  phones_new y q a [] (p ∷ ps) l h = absurd (omega arith)
  phones_new y q a (x ∷ xs) [] l h = absurd (omega arith)
  phones_new y q a (x ∷ xs) (p ∷ ps) l h =
      let ih = phones_new y x a xs ps (omega arith) h.1 in
      record {
        kinds = (ap (λ (i : Item). i.kind) h.0, ih.kinds);
        parents = (ap (λ (i : Item). i.parent) h.0, ih.parents);
        nexts = (ap (λ (i : Item). i.next) h.0, ih.nexts);
        follows = (ap (λ (i : Item). i.follow) h.0, ih.follows);
        prevs = (ap (λ (i : Item). i.prev) h.0, ih.prevs);
        says = rw (ap (λ (i : Item). i.text) h.0, ih.says);
      }

  -- the syllables of word w
  pub record Parts (w q : ℕ) (ss : List SyllableAt) (ys : List Syllable) : Type 0 where
    pub tree : Syllables T ss
    pub parents : All (λ (x : ℕ). (T x).parent ≡ w) (syllables_at ss)
    pub nexts : Onto (λ (x : ℕ). (T x).next) 0 (syllables_at ss)
    pub follows : Onto (follow T) 0 (phones_in ss)
    pub prevs : Backed (prev T) q (phones_in ss)
    pub says : map (syllable_at T) ss ≡ ys

  parts_new : (w q : ℕ) (ss : List SyllableAt) (ys : List Syllable) → Alike ss ys → Distinct (items_in ss) → All (λ (x : ℕ). x ≢ 0) (items_in ss)
      → Are T (items_in ss) (syllable_items w q ss ys) → Parts w q ss ys
  unfolding syllable_items
  parts_new w q [] [] l d r h = record { tree = tt; parents = tt; nexts = tt; follows = tt; prevs = tt; says = refl }
  parts_new w q [] (y ∷ ys) l d r h = absurd l
  parts_new w q (s ∷ ss) [] l d r h = absurd l
  parts_new w q (s ∷ ss) (y ∷ ys) l d r h =
      let a : ℕ = head_or 0 (phones_in ss) in
      let m = are_split T s.phones (items_in ss) (phone_items s.at q a s.phones y.phones) (syllable_items w (end_of q s.phones) ss ys)
      (length_phones s.at q a s.phones y.phones l.0) h.1 in
      let p = phones_new s.at q a s.phones y.phones l.0 m.0 in
      let ih = parts_new w (end_of q s.phones) ss ys l.1 (distinct_right s.phones (items_in ss) d.1) (all_right (λ (x : ℕ). x ≢ 0) s.phones (items_in ss) r.1) m.1 in
      let c = children_new s.at s.phones (ap (λ (i : Item). i.first) h.0) (ap (λ (i : Item). i.last) h.0)
      (all_left (λ (x : ℕ). x ≢ 0) s.phones (items_in ss) r.1) (all_left (λ (x : ℕ). s.at ≢ x) s.phones (items_in ss) d.0) p.nexts p.parents in
      record {
        tree = (ap (λ (i : Item). i.kind) h.0, c, p.kinds, ih.tree);
        parents = (ap (λ (i : Item). i.parent) h.0, ih.parents);
        nexts = (ap (λ (i : Item). i.next) h.0, ih.nexts);
        follows = onto_append (follow T) 0 s.phones (phones_in ss) p.follows ih.follows;
        prevs = backed_append (prev T) q s.phones (phones_in ss) p.prevs ih.prevs;
        says = rw (ap (λ (i : Item). i.stress) h.0, p.says, ih.says);
      }

  -- the word
  pub record Said (n q : ℕ) (w : Word) : Type 0 where
    pub tree : Words T (place_of n w ∷ [])
    pub parent : (T n).parent ≡ 0
    pub next : (T n).next ≡ 0
    pub follows : Onto (follow T) 0 (phones_in (numbered (n + 1) w.syllables))
    pub prevs : Backed (prev T) q (phones_in (numbered (n + 1) w.syllables))
    pub says : word_at T (place_of n w) ≡ w

  pub said : (n q : ℕ) (w : Word) → Distinct (from n (size w)) → All (λ (x : ℕ). x ≢ 0) (from n (size w)) → Are T (from n (size w)) (word_items n q w) → Said n q w
  unfolding word_items
  said n q w d r h =
      let ss : List SyllableAt = numbered (n + 1) w.syllables in
      let e : from n (size w) ≡ n ∷ items_in ss = sym (word_items_lem n w) in
      let once = subst (λ (l : List ℕ). Distinct l) e d in
      let real = subst (λ (l : List ℕ). All (λ (x : ℕ). x ≢ 0) l) e r in
      let new = subst (λ (l : List ℕ). Are T l (word_items n q w)) e h in
      let p = parts_new n q ss w.syllables (numbered_alike (n + 1) w.syllables) once.1 real.1 new.1 in
      let c = children_new n (syllables_at ss) (ap (λ (i : Item). i.first) new.0) (ap (λ (i : Item). i.last) new.0)
      (all_syllables (λ (x : ℕ). x ≢ 0) ss real.1) (all_syllables (λ (x : ℕ). n ≢ x) ss once.0) p.nexts p.parents in
      record {
        tree = (ap (λ (i : Item). i.kind) new.0, c, p.tree, tt);
        parent = ap (λ (i : Item). i.parent) new.0;
        next = ap (λ (i : Item). i.next) new.0;
        follows = p.follows;
        prevs = p.prevs;
        says = rw (ap (λ (i : Item). i.text) new.0, ap (λ (i : Item). i.source) new.0, p.says);
      }
