-- The items of words: those of two lists of words, and of a word numbered from n on.
-- Assumes nothing.
use Rattle.std.specs.Prelude.{ℕ, suc, ◌+◌, ◌≤◌, ◌≡◌, refl, true, ◌&&◌, List, [], ◌∷◌, ◌++◌, map, leb, length}
use Rattle.std.proofs.Common.{add-one, arith, sym, ap, ◌∙◌, subst, append_assoc, append-nil, leb-true}
use Rattle.std.proofs.lemmas.List.{length-map}
use Rattle.texts.specs.Choice.{both_true}
use Rattle.texts.specs.Lists.{every, from, length_from}
use Rattle.texts.specs.Text.{is_phone}
use Rattle.records.specs.Chain.{All, all_append, all_left, all_right}
use Rattle.versions.specs.Versions.{is_stress}
use Rattle.items_spec.specs.Item.{Item}
use Rattle.utterance_spec.specs.Tree.{Syllable, Word, SyllableAt, WordAt, syllables_at, words_at, phones_in, phones_at, items_in, items_at, SungIn, Sung, Syllables, Words, text_at, syllable_at}
use Rattle.utterance_spec.specs.Append.{size_in, size, numbered, place_of, is_syllable}
use Rattle.utterance_spec.proofs.Laws.Behind.{from_append}

-- words behind words
module _ (us : List WordAt) where
  pub words_append : (ws : List WordAt) → words_at (ws ++ us) ≡ words_at ws ++ words_at us
  words_append [] = refl
  words_append (w ∷ ws) = ap (λ (l : List ℕ). w.at ∷ l) (words_append ws)

  pub phones_append : (ws : List WordAt) → phones_at (ws ++ us) ≡ phones_at ws ++ phones_at us
  phones_append [] = refl
  phones_append (w ∷ ws) =
      ap (λ (l : List ℕ). phones_in w.syllables ++ l) (phones_append ws) ∙ sym (append_assoc (phones_in w.syllables) (phones_at ws) (phones_at us))

  pub items_append : (ws : List WordAt) → items_at (ws ++ us) ≡ items_at ws ++ items_at us
  items_append [] = refl
  items_append (w ∷ ws) =
      ap (λ (l : List ℕ). w.at ∷ items_in w.syllables ++ l) (items_append ws)
      ∙ ap (λ (l : List ℕ). w.at ∷ l) (sym (append_assoc (items_in w.syllables) (items_at ws) (items_at us)))

  pub sung_append : (S : ℕ → Item) (v : ℕ) (ws : List WordAt) → Sung S v ws → Sung S v us → Sung S v (ws ++ us)
  sung_append S v [] h k = k
  sung_append S v (w ∷ ws) h k = (h.0, sung_append S v ws h.1 k)

  pub tree_append : (S : ℕ → Item) (ws : List WordAt) → Words S ws → Words S us → Words S (ws ++ us)
  tree_append S [] h k = k
  tree_append S (w ∷ ws) h k = (h.0, h.1, h.2, tree_append S ws h.3 k)

  pub read_append : (f : WordAt → Word) (ws : List WordAt) → map f (ws ++ us) ≡ map f ws ++ map f us
  read_append f [] = refl
  read_append f (w ∷ ws) = ap (λ (l : List Word). f w ∷ l) (read_append f ws)

-- what holds of all items holds of the phones, and of the words
module _ (P : ℕ → Type 0) where
  pub all_phones_in : (ss : List SyllableAt) → All P (items_in ss) → All P (phones_in ss)
  all_phones_in [] h = tt
  all_phones_in (s ∷ ss) h =
      all_append P s.phones (phones_in ss) (all_left P s.phones (items_in ss) h.1) (all_phones_in ss (all_right P s.phones (items_in ss) h.1))

  pub all_syllables : (ss : List SyllableAt) → All P (items_in ss) → All P (syllables_at ss)
  all_syllables [] h = tt
  all_syllables (s ∷ ss) h = (h.0, all_syllables ss (all_right P s.phones (items_in ss) h.1))

  pub all_phones : (ws : List WordAt) → All P (items_at ws) → All P (phones_at ws)
  all_phones [] h = tt
  all_phones (w ∷ ws) h =
      all_append P (phones_in w.syllables) (phones_at ws) (all_phones_in w.syllables (all_left P (items_in w.syllables) (items_at ws) h.1))
      (all_phones ws (all_right P (items_in w.syllables) (items_at ws) h.1))

  pub all_words : (ws : List WordAt) → All P (items_at ws) → All P (words_at ws)
  all_words [] h = tt
  all_words (w ∷ ws) h = (h.0, all_words ws (all_right P (items_in w.syllables) (items_at ws) h.1))

-- the kind of phones
module _ (S : ℕ → Item) where
  kinds_in : (ss : List SyllableAt) → Syllables S ss → All (λ (x : ℕ). (S x).kind ≡ 3) (phones_in ss)
  kinds_in [] h = tt
  kinds_in (s ∷ ss) h = all_append (λ (x : ℕ). (S x).kind ≡ 3) s.phones (phones_in ss) h.2 (kinds_in ss h.3)

  pub phone_kinds : (ws : List WordAt) → Words S ws → All (λ (x : ℕ). (S x).kind ≡ 3) (phones_at ws)
  phone_kinds [] h = tt
  phone_kinds (w ∷ ws) h = all_append (λ (x : ℕ). (S x).kind ≡ 3) (phones_in w.syllables) (phones_at ws) (kinds_in w.syllables h.2) (phone_kinds ws h.3)

-- as many syllables, with as many phones each
abbrev pub Alike : List SyllableAt → List Syllable → Type 0
Alike [] [] = Unit {0}
Alike [] (y ∷ ys) = ⊥
Alike (s ∷ ss) [] = ⊥
Alike (s ∷ ss) (y ∷ ys) = (length s.phones ≡ length y.phones) × Alike ss ys

pub numbered_alike : (k : ℕ) (ys : List Syllable) → Alike (numbered k ys) ys
unfolding numbered
numbered_alike k [] = tt
numbered_alike k (y ∷ ys) = (length_from (k + 1) (length y.phones), numbered_alike (k + 1 + length y.phones) ys)

-- syllables that read as ones that may be said are sung
pub sung_read : (S : ℕ → Item) (v : ℕ) (ss : List SyllableAt) → every (is_syllable v) (map (syllable_at S) ss) ≡ true → SungIn S v ss
unfolding every is_syllable
sung_read S v [] h = tt
sung_read S v (s ∷ ss) h =
    let stress = is_stress v (S s.at).stress in
    let ps = map (text_at S) s.phones in
    let a = both_true (stress && leb 1 (length ps) && every is_phone ps) (every (is_syllable v) (map (syllable_at S) ss)) h in
    let b = both_true (stress && leb 1 (length ps)) (every is_phone ps) a.0 in
    let c = both_true stress (leb 1 (length ps)) b.0 in
    let l = leb-true 1 (length ps) c.1 in
    (c.0, subst (λ (n : ℕ). 1 ≤ n) (length-map s.phones (text_at S)) l, sung_read S v ss a.1)

-- numbered items are all numbers from the first on
pub numbered_items : (k : ℕ) (ys : List Syllable) → items_in (numbered k ys) ≡ from k (size_in ys)
unfolding numbered size_in from
numbered_items k [] = refl
numbered_items k (y ∷ ys) =
    let m : ℕ = length y.phones in
    let e : 1 + m + size_in ys ≡ suc (m + size_in ys) = omega arith in
    let ih : items_in (numbered (k + 1 + m) ys) ≡ from (k + 1 + m) (size_in ys) = numbered_items (k + 1 + m) ys in
    rw (e, ih, ← from_append (k + 1) m (size_in ys), add-one)

pub word_items_lem : (n : ℕ) (w : Word) → n ∷ items_in (numbered (n + 1) w.syllables) ≡ from n (size w)
unfolding size from
word_items_lem n w =
    let e : 1 + size_in w.syllables ≡ suc (size_in w.syllables) = omega arith in
    rw (numbered_items (n + 1) w.syllables, e, add-one)

pub place_items : (n : ℕ) (w : Word) → items_at (place_of n w ∷ []) ≡ from n (size w)
place_items n w = ap (λ (l : List ℕ). n ∷ l) (append-nil (items_in (numbered (n + 1) w.syllables))) ∙ word_items_lem n w
