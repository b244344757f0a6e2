-- Theorems about `specs/WellCut.antt`: 01, demand 3: how a word without pau is cut. Every syllable has exactly one vowel if the word has one; there is one syllable if it has phones
-- but no vowel. The phones of a word on a sheet are bare, by the sheet's version (02, S-9).
-- Assumes nothing.
use Rattle.std.specs.Prelude.{ℕ, ◌<◌, ◌≡◌, refl, Bool, ◌||◌, List, [], ◌∷◌, map, eqb, length}
use Rattle.std.proofs.Common.{arith, ap, ◌∙◌, subst}
use Rattle.std.proofs.Math.Path.{sym}
use Rattle.std.proofs.Math.Bool.{false}
use Rattle.texts.specs.Choice.{cases}
use Rattle.texts.specs.Lists.{some}
use Rattle.phoneset.specs.Phones.{is_vowel}
use Rattle.versions.specs.Versions.{digits}
use Rattle.phoneset.specs.Stress.{bare}
use Rattle.onsets.specs.Onsets.{onsets}
use Rattle.syllabify.specs.Syllables.{is_pau, cut, marks, syllables, on_first, vowels}
use Rattle.syllabify.proofs.OneVowel.{one_vowel_lem, one_syllable_lem}
use Rattle.utterance_spec.specs.Tree.{Syllable}
use Rattle.pipeline_spec.specs.Pronounced.{sung, said}
use Rattle.book.specs.WellCut.{groups_of, together, phones_in, WellCut}

-- cutting commutes with what is done to each phone
first_map : (f : List ℕ → List ℕ) (x : List ℕ) (gs : List (List (List ℕ))) → on_first (f x) (map (map f) gs) ≡ map (map f) (on_first x gs)
first_map f x [] = refl
first_map f x (g ∷ gs) = refl

cut_map : (f : List ℕ → List ℕ) (ms : List ℕ) (ps : List (List ℕ)) → syllables ms (map f ps) ≡ map (map f) (syllables ms ps)
unfolding syllables
cut_map f [] ps = refl
cut_map f (m ∷ ms) [] = refl
cut_map f (m ∷ ms) (p ∷ ps) =
    let ih = cut_map f ms ps in
    cases (eqb m 1)
    (λ e. rw (e, ih))
    (λ e. rw (e, ih) (first_map f p (syllables ms ps)))

-- the syllables' phones together are the phones
together_first : (x : List ℕ) (gs : List (List (List ℕ))) → together (on_first x gs) ≡ x ∷ together gs
together_first x [] = refl
together_first x (g ∷ gs) = refl

together_cut : (o xs : List (List ℕ)) (seen : Bool) → together (syllables (marks o seen xs) xs) ≡ xs
unfolding marks syllables
together_cut o [] seen = refl
together_cut o (x ∷ xs) seen =
    let s = seen || is_vowel x in
    cases (cut o s xs)
    (λ e. let ih = together_cut o xs false in rw e (ap (λ (l : List (List ℕ)). x ∷ l) ih))
    (λ e. let ih = together_cut o xs s in rw e (together_first x (syllables (marks o s xs) xs) ∙ ap (λ (l : List (List ℕ)). x ∷ l) ih))

-- the groups of a word that was said
groups_sung : (v : ℕ) (gs : List (List (List ℕ))) → groups_of (map (sung v) gs) ≡ map (map (bare (digits v))) gs
unfolding sung
groups_sung v [] = refl
groups_sung v (g ∷ gs) = ap (λ (l : List (List (List ℕ))). map (bare (digits v)) g ∷ l) (groups_sung v gs)

-- phones without a vowel are one group
length_groups : (ys : List Syllable) → length (groups_of ys) ≡ length ys
length_groups [] = refl
length_groups (y ∷ ys) = let ih = length_groups ys in omega (arith, ih)

alone : (zs : List (List ℕ)) → vowels zs ≡ 0 → some is_pau zs ≡ false → 0 < length zs → length (syllables (marks onsets false zs) zs) ≡ 1
alone [] v np h = absurd (omega (arith, h))
alone (z ∷ zs) v np h = ap (λ (l : List (List (List ℕ))). length l) (one_syllable_lem onsets z zs false v np)

module _ (v : ℕ) (word : List ℕ) (source : ℕ) (ps : List (List ℕ)) where
  abbrev xs : List (List ℕ)
  xs = map (bare (digits v)) ps

  groups_said : groups_of (said v word source ps).syllables ≡ syllables (marks onsets false xs) xs
  unfolding said
  groups_said = groups_sung v (syllables (marks onsets false xs) ps) ∙ sym (cut_map (bare (digits v)) (marks onsets false xs) ps)

  phones_said : phones_in (said v word source ps) ≡ xs
  phones_said = ap together groups_said ∙ together_cut onsets xs false

  pub said_cut : WellCut (said v word source ps)
  said_cut =
      record {
        vowelled = λ np has. rw groups_said (one_vowel_lem onsets xs (subst (λ (l : List (List ℕ)). 0 < vowels l) phones_said has) (subst (λ (l : List (List ℕ)). some is_pau l ≡ false) phones_said np));
        vowelless = λ np lacks h. sym (length_groups (said v word source ps).syllables) ∙ ap (λ (l : List (List (List ℕ))). length l) groups_said ∙ alone xs (subst (λ (l : List (List ℕ)). vowels l ≡ 0) phones_said lacks) (subst (λ (l : List (List ℕ)). some is_pau l ≡ false) phones_said np) (subst (λ (l : List (List ℕ)). 0 < length l) phones_said h);
      }
