-- A tree is as it was where its items keep their fields; only the last word has a new next word, and only the last phone a new next phone.
-- Assumes nothing.
use Rattle.std.specs.Prelude.{ℕ, ◌≡◌, refl, ◌≢◌, List, [], ◌∷◌, map}
use Rattle.std.proofs.Common.{arith, sym, ap, ◌∙◌, eq-eqb}
use Rattle.records.specs.Chain.{All, all_map, all_left, all_right, frame}
use Rattle.items_spec.specs.Item.{Item}
use Rattle.utterance_spec.specs.Tree.{SyllableAt, WordAt, syllables_at, items_in, items_at, sibling, Children, Syllables, Words, SungIn, Sung, text_at, syllable_at, word_at}
use Rattle.utterance_spec.proofs.Laws.Behind.{all_both}

-- what item i of S keeps in T, where lw is the last word and lp the last phone
pub record Kept (S T : ℕ → Item) (lw lp i : ℕ) : Type 0 where
  pub real : i ≢ 0
  pub kind : (T i).kind ≡ (S i).kind
  pub stress : (T i).stress ≡ (S i).stress
  pub first : (T i).first ≡ (S i).first
  pub last : (T i).last ≡ (S i).last
  pub parent : (T i).parent ≡ (S i).parent
  pub prev : (T i).prev ≡ (S i).prev
  pub mark : (T i).mark ≡ (S i).mark
  pub source : (T i).source ≡ (S i).source
  pub text : (T i).text ≡ (S i).text
  pub next : i ≢ lw → (T i).next ≡ (S i).next
  pub follow : i ≢ lp → (T i).follow ≡ (S i).follow

-- an item with another next sibling x and another next phone y
abbrev pub retied : ℕ → ℕ → Item → Item
retied x y i = record { kind = i.kind; stress = i.stress; next = x; first = i.first; last = i.last; parent = i.parent; prev = i.prev; follow = y; mark = i.mark; source = i.source; text = i.text }

module _ (S T : ℕ → Item) (lw lp : ℕ) where
  pub kept_by : (i x y : ℕ) → i ≢ 0 → T i ≡ retied x y (S i) → (i ≢ lw → x ≡ (S i).next) → (i ≢ lp → y ≡ (S i).follow) → Kept S T lw lp i
  kept_by i x y r e a b =
      record {
        real = r;
        kind = ap (λ (x : Item). x.kind) e;
        stress = ap (λ (x : Item). x.stress) e;
        first = ap (λ (x : Item). x.first) e;
        last = ap (λ (x : Item). x.last) e;
        parent = ap (λ (x : Item). x.parent) e;
        prev = ap (λ (x : Item). x.prev) e;
        mark = ap (λ (x : Item). x.mark) e;
        source = ap (λ (x : Item). x.source) e;
        text = ap (λ (x : Item). x.text) e;
        next = λ ne. ap (λ (x : Item). x.next) e ∙ a ne;
        follow = λ ne. ap (λ (x : Item). x.follow) e ∙ b ne;
      }

  -- what they say
  texts_kept : (xs : List ℕ) → All (Kept S T lw lp) xs → map (text_at T) xs ≡ map (text_at S) xs
  texts_kept [] h = refl
  texts_kept (x ∷ xs) h = let ih = texts_kept xs h.1 in rw (h.0.text, ih)

  syllables_say : (ss : List SyllableAt) → All (Kept S T lw lp) (items_in ss) → map (syllable_at T) ss ≡ map (syllable_at S) ss
  syllables_say [] h = refl
  syllables_say (s ∷ ss) h =
      let a = texts_kept s.phones (all_left (Kept S T lw lp) s.phones (items_in ss) h.1) in
      let ih = syllables_say ss (all_right (Kept S T lw lp) s.phones (items_in ss) h.1) in
      rw (h.0.stress, a, ih)

  pub words_say : (ws : List WordAt) → All (Kept S T lw lp) (items_at ws) → map (word_at T) ws ≡ map (word_at S) ws
  words_say [] h = refl
  words_say (w ∷ ws) h =
      let a = syllables_say w.syllables (all_left (Kept S T lw lp) (items_in w.syllables) (items_at ws) h.1) in
      let ih = words_say ws (all_right (Kept S T lw lp) (items_in w.syllables) (items_at ws) h.1) in
      rw (h.0.text, h.0.source, a, ih)

  -- what is sung stays so
  syllables_sung : (v : ℕ) (ss : List SyllableAt) → All (Kept S T lw lp) (items_in ss) → SungIn S v ss → SungIn T v ss
  syllables_sung v [] k h = tt
  syllables_sung v (s ∷ ss) k h =
      (rw k.0.stress h.0, h.1, syllables_sung v ss (all_right (Kept S T lw lp) s.phones (items_in ss) k.1) h.2)

  pub words_sung : (v : ℕ) (ws : List WordAt) → All (Kept S T lw lp) (items_at ws) → Sung S v ws → Sung T v ws
  words_sung v [] k h = tt
  words_sung v (w ∷ ws) k h = (
    syllables_sung v w.syllables (all_left (Kept S T lw lp) (items_in w.syllables) (items_at ws) k.1) h.0,
    words_sung v ws (all_right (Kept S T lw lp) (items_in w.syllables) (items_at ws) k.1) h.1,
  )

  -- the children of p, none of which is the last word
  children_kept : (p : ℕ) (xs : List ℕ) → Kept S T lw lp p → All (λ (x : ℕ). Kept S T lw lp x × (x ≢ lw)) xs → Children S p xs → Children T p xs
  unfolding sibling
  children_kept p xs k a h =
      record {
        linked = frame (sibling S p) (sibling T p) p xs (rw (eq-eqb p p refl) k.first)
            (all_map (λ (x : ℕ). Kept S T lw lp x × (x ≢ lw)) (λ (x : ℕ). sibling T p x ≡ sibling S p x) xs (λ x g. rw (g.0.first, g.0.next g.1)) a)
            h.linked;
        last = k.last ∙ h.last;
        parents = all_map (λ (x : ℕ). (Kept S T lw lp x × (x ≢ lw)) × ((S x).parent ≡ p)) (λ (x : ℕ). (T x).parent ≡ p) xs (λ x g. g.0.0.parent ∙ g.1)
            (all_both (λ (x : ℕ). Kept S T lw lp x × (x ≢ lw)) (λ (x : ℕ). (S x).parent ≡ p) xs a h.parents);
      }

  module _ (firm : (i : ℕ) → i ≢ 0 → (S i).kind ≢ 1 → i ≢ lw) where
    -- syllables and phones are not the last word
    no_word : (n : ℕ) (xs : List ℕ) → n ≢ 1 → All (Kept S T lw lp) xs → All (λ (x : ℕ). (S x).kind ≡ n) xs → All (λ (x : ℕ). Kept S T lw lp x × (x ≢ lw)) xs
    no_word n xs ne k h =
        all_map (λ (x : ℕ). Kept S T lw lp x × ((S x).kind ≡ n)) (λ (x : ℕ). Kept S T lw lp x × (x ≢ lw)) xs
        (λ x g. (g.0, firm x g.0.real (λ e. ne (sym g.1 ∙ e)))) (all_both (Kept S T lw lp) (λ (x : ℕ). (S x).kind ≡ n) xs k h)

    no_words_lem : (ss : List SyllableAt) → All (Kept S T lw lp) (items_in ss) → Syllables S ss → All (λ (x : ℕ). Kept S T lw lp x × (x ≢ lw)) (syllables_at ss)
    no_words_lem [] k h = tt
    no_words_lem (s ∷ ss) k h = (
      (k.0, firm s.at k.0.real (λ e. absurd (omega (arith, h.0)))),
      no_words_lem ss (all_right (Kept S T lw lp) s.phones (items_in ss) k.1) h.3,
    )

    syllables_kept : (ss : List SyllableAt) → All (Kept S T lw lp) (items_in ss) → Syllables S ss → Syllables T ss
    syllables_kept [] k h = tt
    syllables_kept (s ∷ ss) k h =
        let a = all_left (Kept S T lw lp) s.phones (items_in ss) k.1 in (
          k.0.kind ∙ h.0,
          children_kept s.at s.phones k.0 (no_word 3 s.phones (omega arith) a h.2) h.1,
          all_map (λ (x : ℕ). Kept S T lw lp x × ((S x).kind ≡ 3)) (λ (x : ℕ). (T x).kind ≡ 3) s.phones (λ x g. g.0.kind ∙ g.1)
              (all_both (Kept S T lw lp) (λ (x : ℕ). (S x).kind ≡ 3) s.phones a h.2),
          syllables_kept ss (all_right (Kept S T lw lp) s.phones (items_in ss) k.1) h.3,
        )

    pub words_kept : (ws : List WordAt) → All (Kept S T lw lp) (items_at ws) → Words S ws → Words T ws
    words_kept [] k h = tt
    words_kept (w ∷ ws) k h =
        let a = all_left (Kept S T lw lp) (items_in w.syllables) (items_at ws) k.1 in (
          k.0.kind ∙ h.0,
          children_kept w.at (syllables_at w.syllables) k.0 (no_words_lem w.syllables a h.2) h.1,
          syllables_kept w.syllables a h.2,
          words_kept ws (all_right (Kept S T lw lp) (items_in w.syllables) (items_at ws) k.1) h.3,
        )
