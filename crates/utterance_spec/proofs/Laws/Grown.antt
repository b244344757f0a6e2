-- A word put last, said of items and not of bytes: the tree has it last, both chains of phones go on to its phones, and all other words read as before.
-- Assumes nothing.
use Rattle.std.specs.Prelude.{ℕ, ◌+◌, ◌≤◌, ◌<◌, ◌≡◌, refl, ◌≢◌, true}
use Rattle.std.proofs.Common.{arith, ◌∙◌, eq-eqb, ne_eqb}
use Rattle.std.proofs.Math.Decide.{ℕ_discrete}
use Rattle.std.proofs.Math.Path.{sym, ap, subst}
use mathlib.Core.List.{List, [], ◌∷◌, ◌++◌, map, reverse, append-nil}
use Rattle.std.proofs.Math.Dec.{eqb}
use Rattle.texts.specs.Choice.{when◌then◌else◌}
use Rattle.texts.specs.Lists.{every, from}
use Rattle.records.specs.Chain.{All, Distinct, Linked, end_of, all_map, all_append, all_end, end_append}
use Rattle.items_spec.specs.Item.{Item}
use Rattle.utterance_spec.specs.Tree.{Word, WordAt, words_at, phones_in, phones_at, items_at, SungIn, Sung, sibling, prev, follow, Children, Tree, syllable_at, word_at}
use Rattle.utterance_spec.specs.Append.{head_or, size, numbered, place_of, word_items, is_syllable}
use Rattle.utterance_spec.proofs.Laws.Behind.{all_both, all_reverse, reverse_append, head_reverse, distinct_append, all_from, distinct_from, onto_linked, backed_linked, linked_head, moved, join}
use Rattle.utterance_spec.proofs.Laws.Walked.{word_kinds}
use Rattle.utterance_spec.proofs.Laws.Places.{words_append, phones_append, items_append, sung_append, tree_append, read_append, all_phones_in, all_phones, all_words, sung_read, word_items_lem, place_items}
use Rattle.utterance_spec.proofs.Laws.Kept.{Kept, retied, kept_by, words_say, words_sung, words_kept}
use Rattle.utterance_spec.proofs.Laws.Said.{Are, Said, said}

-- item 0 with word n as its last word, phones from a to l behind its phones, and u items used
abbrev pub with_word : ℕ → ℕ → ℕ → ℕ → Item → Item
with_word n a l u i =
    record {
      kind = i.kind;
      stress = i.stress;
      next = i.next;
      first = when eqb i.last 0 then n else i.first;
      last = n;
      parent = u;
      prev = l;
      follow = when eqb i.prev 0 then a else i.follow;
      mark = i.mark;
      source = i.source;
      text = i.text;
    }

-- how items T come from items S when word w is put last, from item n on, u items used then
pub record Grown (S T : ℕ → Item) (n u : ℕ) (w : Word) : Type 0 where
  pub head : T 0 ≡ with_word n (head_or 0 (phones_in (numbered (n + 1) w.syllables))) (end_of (S 0).prev (phones_in (numbered (n + 1) w.syllables))) u (S 0)
  pub word : (S 0).last ≢ 0 → T (S 0).last ≡ retied n (S (S 0).last).follow (S (S 0).last)
  pub phone : (S 0).prev ≢ 0 → T (S 0).prev ≡ retied (S (S 0).prev).next (head_or 0 (phones_in (numbered (n + 1) w.syllables))) (S (S 0).prev)
  pub new : Are T (from n (size w)) (word_items n (S 0).prev w)
  pub others : (j : ℕ) → j ≢ 0 → j < n → j ≢ (S 0).last → j ≢ (S 0).prev → T j ≡ S j

-- the chain back begins at the last phone
pub back_end : (S : ℕ → Item) (ws : List WordAt) → Linked (prev S) 0 (reverse (phones_at ws)) → (S 0).prev ≡ end_of 0 (phones_at ws)
unfolding prev
back_end S ws h = linked_head (prev S) 0 (reverse (phones_at ws)) h ∙ head_reverse 0 (phones_at ws) []

module _ (S T : ℕ → Item) (n u : ℕ) (w : Word) (g : Grown S T n u w) where
  abbrev lw : ℕ
  lw = (S 0).last

  abbrev lp : ℕ
  lp = (S 0).prev

  abbrev ps : List ℕ
  ps = phones_in (numbered (n + 1) w.syllables)

  -- an old item keeps its fields
  kept : (i : ℕ) → i ≢ 0 → i < n → Kept S T lw lp i
  kept i r l = go (ℕ_discrete i lw) (ℕ_discrete i lp)
    where
      go : Dec (i ≡ lw) → Dec (i ≡ lp) → Kept S T lw lp i
      go (yes a) b =
          let e : T i ≡ retied n (S i).follow (S i) = subst (λ (j : ℕ). T j ≡ retied n (S j).follow (S j)) (sym a) (g.word (λ z. r (a ∙ z))) in
          kept_by S T lw lp i n (S i).follow r e (λ ne. absurd (ne a)) (λ ne. refl)
      go (no a) (yes b) =
          let e : T i ≡ retied (S i).next (head_or 0 ps) (S i) = subst (λ (j : ℕ). T j ≡ retied (S j).next (head_or 0 ps) (S j)) (sym b) (g.phone (λ z. r (b ∙ z))) in
          kept_by S T lw lp i (S i).next (head_or 0 ps) r e (λ ne. refl) (λ ne. absurd (ne b))
      go (no a) (no b) = kept_by S T lw lp i (S i).next (S i).follow r (g.others i r l a b) (λ ne. refl) (λ ne. refl)

  -- the ties: what stands behind the last word, and behind the last phone
  tie_word : sibling T 0 lw ≡ n
  unfolding sibling
  tie_word = go (ℕ_discrete lw 0)
    where
      go : Dec (lw ≡ 0) → (when eqb lw 0 then (T lw).first else (T lw).next) ≡ n
      go (yes z) = rw (eq-eqb lw 0 z) (ap (λ (j : ℕ). (T j).first) z ∙ ap (λ (x : Item). x.first) g.head ∙ rw (eq-eqb lw 0 z))
      go (no z) = rw (ne_eqb lw 0 z) (ap (λ (x : Item). x.next) (g.word z))

  tie_phone : follow T lp ≡ head_or 0 ps
  unfolding follow
  tie_phone = go (ℕ_discrete lp 0)
    where
      go : Dec (lp ≡ 0) → (T lp).follow ≡ head_or 0 ps
      go (yes z) = ap (λ (j : ℕ). (T j).follow) z ∙ ap (λ (x : Item). x.follow) g.head ∙ rw (eq-eqb lp 0 z)
      go (no z) = ap (λ (x : Item). x.follow) (g.phone z)

  -- and what item 0 keeps where there was a word, or a phone
  keep_word : 0 ≢ lw → sibling T 0 0 ≡ sibling S 0 0
  unfolding sibling
  keep_word ne = ap (λ (x : Item). x.first) g.head ∙ rw (ne_eqb lw 0 (λ z. ne (sym z)))

  keep_phone : 0 ≢ lp → follow T 0 ≡ follow S 0
  unfolding follow
  keep_phone ne = ap (λ (x : Item). x.follow) g.head ∙ rw (ne_eqb lp 0 (λ z. ne (sym z)))

  module _ (real : n ≢ 0) (ws : List WordAt) (tree : Tree S ws) (each : All (λ (i : ℕ). (i ≢ 0) × (i < n)) (items_at ws)) where
    abbrev grown : List WordAt
    grown = ws ++ (place_of n w ∷ [])

    olds : All (Kept S T lw lp) (items_at ws)
    olds = all_map (λ (i : ℕ). (i ≢ 0) × (i < n)) (Kept S T lw lp) (items_at ws) (λ i h. kept i h.0 h.1) each

    new_real : All (λ (i : ℕ). i ≢ 0) (from n (size w))
    new_real = all_map (λ (i : ℕ). (n ≤ i) × (i < n + size w)) (λ (i : ℕ). i ≢ 0) (from n (size w)) (λ i h z. absurd (omega arith)) (all_from n (size w))

    spoken : Said T n lp w
    spoken = said T n lp w (distinct_from n (size w)) new_real g.new

    phones_real : All (λ (i : ℕ). i ≢ 0) ps
    phones_real =
        all_phones_in (λ (i : ℕ). i ≢ 0) (numbered (n + 1) w.syllables)
        (subst (λ (l : List ℕ). All (λ (i : ℕ). i ≢ 0) l) (sym (word_items_lem n w)) new_real).1

    -- the items
    pub grown_items : items_at grown ≡ items_at ws ++ from n (size w)
    grown_items = items_append (place_of n w ∷ []) ws ∙ ap (λ (l : List ℕ). items_at ws ++ l) (place_items n w)

    pub grown_once : Distinct (items_at ws) → Distinct (items_at grown)
    grown_once d =
        subst (λ (l : List ℕ). Distinct l) (sym grown_items)
        (distinct_append (items_at ws) (from n (size w)) d (distinct_from n (size w))
        (all_map (λ (i : ℕ). (i ≢ 0) × (i < n)) (λ (i : ℕ). All (λ (j : ℕ). i ≢ j) (from n (size w))) (items_at ws)
        (λ i h. all_map (λ (j : ℕ). (n ≤ j) × (j < n + size w)) (λ (j : ℕ). i ≢ j) (from n (size w)) (λ j k z. absurd (omega arith)) (all_from n (size w))) each))

    pub grown_sung : (v : ℕ) → Sung S v ws → every (is_syllable v) w.syllables ≡ true → Sung T v grown
    grown_sung v h k =
        let e : map (syllable_at T) (numbered (n + 1) w.syllables) ≡ w.syllables = ap (λ (x : Word). x.syllables) spoken.says in
        let new : SungIn T v (numbered (n + 1) w.syllables) = sung_read T v (numbered (n + 1) w.syllables) (rw e k) in
        sung_append (place_of n w ∷ []) T v ws (words_sung S T lw lp v ws olds h) (new, tt)

    -- the words
    last_word : lw ≡ end_of 0 (words_at ws)
    last_word = tree.top.last

    firm : (i : ℕ) → i ≢ 0 → (S i).kind ≢ 1 → i ≢ lw
    firm i r k e =
        all_end (λ (x : ℕ). i ≢ x) 0 (words_at ws) r
        (all_map (λ (x : ℕ). (S x).kind ≡ 1) (λ (x : ℕ). i ≢ x) (words_at ws) (λ x h z. k (ap (λ (j : ℕ). (S j).kind) z ∙ h)) (word_kinds S ws tree.words))
        (e ∙ last_word)

    words_linked : Linked (sibling T 0) 0 (words_at ws ++ (n ∷ []))
    unfolding sibling
    words_linked =
        join (sibling S 0) (sibling T 0) 0 (words_at ws) (n ∷ []) tree.top.linked
        (λ z. keep_word (λ e. z (e ∙ last_word)))
        (all_map (Kept S T lw lp) (λ (x : ℕ). x ≢ end_of 0 (words_at ws) → sibling T 0 x ≡ sibling S 0 x) (words_at ws)
        (λ x k z. rw (k.first, k.next (λ e. z (e ∙ last_word)))) (all_words (Kept S T lw lp) ws olds)) (
          subst (λ (j : ℕ). sibling T 0 j ≡ n) last_word tie_word,
          real,
          rw (ne_eqb n 0 real) spoken.next,
        )

    pub grown_tree : Tree T grown
    unfolding end_of
    grown_tree =
        let one : List WordAt = place_of n w ∷ [] in
        let e : words_at grown ≡ words_at ws ++ (n ∷ []) = words_append one ws in
        record {
          top = subst (λ (l : List ℕ). Children T 0 l) (sym e) (
              record {
                linked = words_linked;
                last = ap (λ (x : Item). x.last) g.head ∙ sym (end_append 0 (words_at ws) (n ∷ []));
                parents = all_append (λ (x : ℕ). (T x).parent ≡ 0) (words_at ws) (n ∷ [])
                    (all_map (λ (x : ℕ). Kept S T lw lp x × ((S x).parent ≡ 0)) (λ (x : ℕ). (T x).parent ≡ 0) (words_at ws) (λ x k. k.0.parent ∙ k.1)
                    (all_both (Kept S T lw lp) (λ (x : ℕ). (S x).parent ≡ 0) (words_at ws) (all_words (Kept S T lw lp) ws olds) tree.top.parents))
                    (spoken.parent, tt);
              });
          words = tree_append one T ws (words_kept S T lw lp firm ws olds tree.words) spoken.tree;
        }

    -- what they say
    pub grown_reads : map (word_at T) grown ≡ map (word_at S) ws ++ (w ∷ [])
    grown_reads =
        read_append (place_of n w ∷ []) (word_at T) ws
        ∙ ap (λ (l : List Word). l ++ (word_at T (place_of n w) ∷ [])) (words_say S T lw lp ws olds)
        ∙ ap (λ (v : Word). map (word_at S) ws ++ (v ∷ [])) spoken.says

    -- the phones
    module _ (back : Linked (prev S) 0 (reverse (phones_at ws))) where
      last_phone_lem : lp ≡ end_of 0 (phones_at ws)
      last_phone_lem = back_end S ws back

      grown_phones : phones_at grown ≡ phones_at ws ++ ps
      grown_phones = phones_append (place_of n w ∷ []) ws ∙ ap (λ (l : List ℕ). phones_at ws ++ l) (append-nil ps)

      pub grown_onwards : Linked (follow S) 0 (phones_at ws) → Linked (follow T) 0 (phones_at grown)
      unfolding follow
      grown_onwards h =
          subst (λ (l : List ℕ). Linked (follow T) 0 l) (sym grown_phones)
          (join (follow S) (follow T) 0 (phones_at ws) ps h
          (λ z. keep_phone (λ e. z (e ∙ last_phone_lem)))
          (all_map (Kept S T lw lp) (λ (x : ℕ). x ≢ end_of 0 (phones_at ws) → follow T x ≡ follow S x) (phones_at ws)
          (λ x k z. k.follow (λ e. z (e ∙ last_phone_lem))) (all_phones (Kept S T lw lp) ws olds))
          (subst (λ (j : ℕ). Linked (follow T) j ps) last_phone_lem (onto_linked (follow T) lp ps tie_phone phones_real spoken.follows)))

      pub grown_backwards : Linked (prev T) 0 (reverse (phones_at grown))
      unfolding prev
      grown_backwards =
          subst (λ (l : List ℕ). Linked (prev T) 0 l) (sym (ap (λ (l : List ℕ). reverse l) grown_phones ∙ reverse_append (phones_at ws) ps []))
          (backed_linked (prev T) lp 0 ps (reverse (phones_at ws)) (ap (λ (x : Item). x.prev) g.head) phones_real spoken.prevs
          (λ i e. moved (prev S) (prev T) 0 i (reverse (phones_at ws)) e
          (all_reverse (λ (x : ℕ). prev T x ≡ prev S x) (phones_at ws) []
          (all_map (Kept S T lw lp) (λ (x : ℕ). prev T x ≡ prev S x) (phones_at ws) (λ x k. k.prev) (all_phones (Kept S T lw lp) ws olds)) tt) back))
