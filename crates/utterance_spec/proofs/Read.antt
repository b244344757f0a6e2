-- 01, Store and sheet: a sound sheet reads as its words, and the chains of its phones are walked in order and in reverse.
-- Assumes nothing.
use Rattle.std.specs.Prelude.{ℕ, ◌≤◌, ◌≡◌, refl, List, [], ◌∷◌, map, reverse, length}
use Rattle.std.proofs.Common.{arith, ap, length-append}
use Rattle.std.proofs.lemmas.List.{length-reverse}
use Rattle.records.specs.Chain.{chain, chain_linked}
use Rattle.items_spec.specs.Item.{Item}
use Rattle.utterance_spec.specs.Tree.{SyllableAt, WordAt, syllables_at, words_at, phones_in, phones_at, items_in, items_at, sibling, prev, follow, Syllables, Words, Tree, children_of, syllable_from, word_from, places, word_at}
use Rattle.utterance_spec.specs.Sheet.{at, used, reading}
use Rattle.utterance_spec.specs.Sound.{Sound}

-- no more phones, syllables or words than items
phones_few : (ys : List SyllableAt) → length (phones_in ys) ≤ length (items_in ys)
phones_few [] = omega arith
phones_few (y ∷ ys) = let ih = phones_few ys in omega (arith, length-append y.phones (phones_in ys), length-append y.phones (items_in ys))

pub phones_fewer : (ws : List WordAt) → length (phones_at ws) ≤ length (items_at ws)
phones_fewer [] = omega arith
phones_fewer (w ∷ ws) =
    let ih = phones_fewer ws in
    omega (arith, phones_few w.syllables, length-append (phones_in w.syllables) (phones_at ws), length-append (items_in w.syllables) (items_at ws))

syllables_few : (ys : List SyllableAt) → length (syllables_at ys) ≤ length (items_in ys)
syllables_few [] = omega arith
syllables_few (y ∷ ys) = let ih = syllables_few ys in omega (arith, length-append y.phones (items_in ys))

words_few : (ws : List WordAt) → length (words_at ws) ≤ length (items_at ws)
words_few [] = omega arith
words_few (w ∷ ws) = let ih = words_few ws in omega (arith, length-append (items_in w.syllables) (items_at ws))

-- a tree is read off its links
module _ (S : ℕ → Item) (n : ℕ) where
  syllables_read : (ys : List SyllableAt) → Syllables S ys → length (items_in ys) ≤ n → map (syllable_from S n) (syllables_at ys) ≡ ys
  syllables_read [] h l = refl
  syllables_read (y ∷ ys) h l =
      let a = length-append y.phones (items_in ys) in
      let e : children_of S n y.at ≡ y.phones = chain_linked (sibling S y.at) n y.at y.phones h.1.linked (omega arith) in
      let ih = syllables_read ys h.3 (omega arith) in
      rw (e, ih)

  words_read : (ws : List WordAt) → Words S ws → length (items_at ws) ≤ n → map (word_from S n) (words_at ws) ≡ ws
  words_read [] h l = refl
  words_read (w ∷ ws) h l =
      let a = length-append (items_in w.syllables) (items_at ws) in
      let c = syllables_few w.syllables in
      let e : children_of S n w.at ≡ syllables_at w.syllables = chain_linked (sibling S w.at) n w.at (syllables_at w.syllables) h.1.linked (omega arith) in
      let f = syllables_read w.syllables h.2 (omega arith) in
      let ih = words_read ws h.3 (omega arith) in
      rw (e, f, ih)

  pub tree_read : (ws : List WordAt) → Tree S ws → length (items_at ws) ≤ n → places S n ≡ ws
  unfolding places
  tree_read ws t l =
      let c = words_few ws in
      let e : children_of S n 0 ≡ words_at ws = chain_linked (sibling S 0) n 0 (words_at ws) t.top.linked (omega arith) in
      rw e (words_read ws t.words l)

-- a sound sheet reads as its words
pub places_are : (b : List ℕ) (s : Sound b) → places (at b) (used b) ≡ s.words
places_are b s = let n = s.all in tree_read (at b) (used b) s.words s.tree (omega arith)

pub reading_is : (b : List ℕ) (s : Sound b) → reading b ≡ map (word_at (at b)) s.words
unfolding reading
reading_is b s = ap (λ (ws : List WordAt). map (word_at (at b)) ws) (places_are b s)

-- and its phones are met in order along the one chain, in reverse along the other
pub onward_is : (b : List ℕ) (s : Sound b) → chain (follow (at b)) (used b) 0 ≡ phones_at s.words
onward_is b s =
    let n = s.all in
    let f = phones_fewer s.words in
    chain_linked (follow (at b)) (used b) 0 (phones_at s.words) s.onwards (omega arith)

pub back_is : (b : List ℕ) (s : Sound b) → chain (prev (at b)) (used b) 0 ≡ reverse (phones_at s.words)
back_is b s =
    let n = s.all in
    let f = phones_fewer s.words in
    let r = length-reverse (phones_at s.words) in
    chain_linked (prev (at b)) (used b) 0 (reverse (phones_at s.words)) s.backwards (omega arith)
