-- The cuts of a word, in any version, hand over its syllables: phones grouped by them are the syllables that are sung, and the last phone ends one.
-- Assumes nothing.
use Prim.Native.Nat.{ℕ, suc, ◌+◌, ◌-◌, ◌≤◌, ◌<◌}
use Rattle.std.proofs.Math.Numerals.{add-one}
use Rattle.std.proofs.Common.{not-suc-le-zero, arith, sym, ap, ◌∙◌, drop_of_length-le}
use Rattle.std.specs.Prelude.{◌≡◌, ◌≢◌, Bool, true, ◌||◌, eqb, get_or, drop}
use Rattle.std.proofs.Math.Path.{refl}
use Rattle.std.proofs.Math.Bool.{false}
use mathlib.Core.List.{List, [], ◌∷◌, ◌++◌, map}
use Rattle.std.proofs.Math.ListN.{length, length-map}
use Rattle.std.proofs.Math.Seq.{drop-cons}
use borrow.Author.Tests.{ne_eqb}
use Rattle.texts.specs.Choice.{when◌then◌else◌, cases, never}
use Rattle.phoneset.specs.Phones.{is_vowel}
use Rattle.versions.specs.Versions.{digits, is_stress}
use Rattle.versions.proofs.Laws.Stresses.{zero_stress, stress_never}
use Rattle.phoneset.specs.Stress.{is_stressed, stress, bare, stress_left}
use Rattle.onsets.specs.Onsets.{onsets}
use Rattle.syllabify.specs.Syllables.{cut, marks, syllables, on_first}
use Rattle.utterance_spec.specs.Tree.{Syllable}
use Rattle.utterance_spec.specs.Cuts.{on_head, grouped, Ended}
use Rattle.pipeline_spec.specs.Pronounced.{last_stress, sung}
use Rattle.pipeline_spec.specs.Cutting.{stressed, cuts_of}
use Rattle.pipeline_spec.proofs.Laws.Fits.{digit}

pub length_marks : (o : List (List ℕ)) (seen : Bool) (xs : List (List ℕ)) → length (marks o seen xs) ≡ length xs
unfolding marks
length_marks o seen [] = refl
length_marks o seen (x ∷ xs) = ap suc (length_marks o (when cut o (seen || is_vowel x) xs then false else seen || is_vowel x) xs)

-- one cut in front of others
same_last : (x c : ℕ) (cuts : List ℕ) → get_or (x ∷ c ∷ cuts) (suc (suc (length cuts)) - 1) 0 ≡ get_or (c ∷ cuts) (suc (length cuts) - 1) 0
same_last x c cuts = let e : suc (suc (length cuts)) - 1 ≡ suc (suc (length cuts) - 1) = omega arith in ap (λ (k : ℕ). get_or (x ∷ c ∷ cuts) k 0) e

ended_more : (x : ℕ) (cuts : List ℕ) → (length cuts ≡ 0 → x ≢ 0) → Ended cuts → Ended (x ∷ cuts)
ended_more x [] h e = λ l. h refl
ended_more x (c ∷ cuts) h e = λ l z. e (omega arith) (sym (same_last x c cuts) ∙ z)

-- where no syllable ends a phone follows, and with it a syllable
some_left_lem : (o : List (List ℕ)) (seen : Bool) (xs : List (List ℕ)) → cut o seen xs ≡ false → 0 < length xs
unfolding cut
some_left_lem o seen [] e = never true refl e
some_left_lem o seen (x ∷ xs) e = omega arith

first_long : (x : List ℕ) (gs : List (List (List ℕ))) → 0 < length (on_first x gs)
first_long x [] = omega arith
first_long x (g ∷ gs) = omega arith

some_syllable : (m : ℕ) (ms : List ℕ) (p : List ℕ) (ps : List (List ℕ)) → 0 < length (syllables (m ∷ ms) (p ∷ ps))
unfolding syllables
some_syllable m ms p ps = cases (eqb m 1) (λ e. rw e (omega arith)) (λ e. rw e (first_long p (syllables ms ps)))

-- by the version
module _ (v : ℕ) where
  -- one turn of the loop that cuts
  pub cuts_turn : (d : ℕ) (ms : List ℕ) (ps : List (List ℕ)) (i : ℕ) → i < length ms → i < length ps
      → (s : ℕ) → s ≡ stressed v d (get_or ps i [])
      → cuts_of v d (drop i ms) (drop i ps) ≡ (when eqb (get_or ms i 0) 1 then s else 0) ∷ cuts_of v (when eqb (get_or ms i 0) 1 then 48 else s) (drop (i + 1) ms) (drop (i + 1) ps)
  unfolding cuts_of
  cuts_turn d ms ps i hm hp s e =
      rw (drop-cons ms i 0 hm, drop-cons ps i [] hp, add-one, e)
      (cases (eqb (get_or ms i 0) 1) (λ t. rw t) (λ t. rw t))

  pub cuts_end : (d : ℕ) (ms : List ℕ) (ps : List (List ℕ)) (i : ℕ) → length ps ≤ i → cuts_of v d (drop i ms) (drop i ps) ≡ []
  unfolding cuts_of
  cuts_end d ms ps i h = rw (drop_of_length-le ps h) (ends (drop i ms))
    where
      ends : (l : List ℕ) → cuts_of v d l [] ≡ []
      ends [] = refl
      ends (m ∷ l) = refl

  -- a cut and a mark for each phone; what stands behind the marks makes no cut
  pub length_cuts : (d : ℕ) (ms : List ℕ) (ps : List (List ℕ)) → length ms ≡ length ps → length (cuts_of v d ms ps) ≡ length ps
  unfolding cuts_of
  length_cuts d [] ps h = h
  length_cuts d (m ∷ ms) [] h = refl
  length_cuts d (m ∷ ms) (p ∷ ps) h =
      let l : length ms ≡ length ps = omega (arith, h) in
      cases (eqb m 1)
      (λ e. rw e (ap suc (length_cuts 48 ms ps l)))
      (λ e. rw e (ap suc (length_cuts (stressed v d p) ms ps l)))

  pub cuts_front : (d : ℕ) (ms more : List ℕ) (ps : List (List ℕ)) → length ms ≡ length ps → cuts_of v d (ms ++ more) ps ≡ cuts_of v d ms ps
  unfolding cuts_of
  cuts_front d [] [] [] h = refl
  cuts_front d [] (n ∷ more) [] h = refl
  cuts_front d [] more (p ∷ ps) h = absurd (omega (arith, h))
  cuts_front d (m ∷ ms) more [] h = refl
  cuts_front d (m ∷ ms) more (p ∷ ps) h =
      let l : length ms ≡ length ps = omega (arith, h) in
      cases (eqb m 1)
      (λ e. rw e (ap (λ (cs : List ℕ). stressed v d p ∷ cs) (cuts_front 48 ms more ps l)))
      (λ e. rw e (ap (λ (cs : List ℕ). 0 ∷ cs) (cuts_front (stressed v d p) ms more ps l)))

  -- a stress is never 0, so a split tells whether a phone has one
  still_stress : (d : ℕ) (p : List ℕ) → is_stress v d ≡ true → is_stress v (stressed v d p) ≡ true
  unfolding stressed
  still_stress d p h = cases (is_stressed (digits v) p) (λ e. rw e (digit v p e)) (λ e. rw e h)

  pub stress_own : (d : ℕ) (p : List ℕ) → stress (digits v) p ≢ 0 → stress (digits v) p ≡ stressed v d p
  unfolding stressed
  stress_own d p h = cases (is_stressed (digits v) p) (λ e. rw e) (λ e. absurd (h (sym (stress_left (digits v) p e).1)))

  pub stress_kept : (d : ℕ) (p : List ℕ) → stress (digits v) p ≡ 0 → d ≡ stressed v d p
  unfolding stressed
  stress_kept d p h = cases (is_stressed (digits v) p) (λ e. absurd (stress_never v (stress (digits v) p) (digit v p e) h)) (λ e. rw e)

  pub ruleset stress_split = (stress_own, stress_kept)

  -- the syllables, of which the first had the stress d already
  abbrev sung_from : ℕ → List (List (List ℕ)) → List Syllable
  sung_from d [] = []
  sung_from d (g ∷ gs) = record { stress = last_stress v d g; phones = map (bare (digits v)) g } ∷ map (sung v) gs

  sung_from_lem : (gs : List (List (List ℕ))) → sung_from 48 gs ≡ map (sung v) gs
  unfolding sung
  sung_from_lem [] = refl
  sung_from_lem (g ∷ gs) = refl

  first_sung : (d : ℕ) (p : List ℕ) (gs : List (List (List ℕ))) → 0 < length gs → on_head (bare (digits v) p) (sung_from (stressed v d p) gs) ≡ sung_from d (on_first p gs)
  unfolding last_stress stressed
  first_sung d p [] h = absurd (not-suc-le-zero h)
  first_sung d p (g ∷ gs) h = refl

  -- the marks of the bare phones, with any onsets
  module _ (o : List (List ℕ)) where
    some_sung : (seen : Bool) (ps : List (List ℕ)) → 0 < length (map (bare (digits v)) ps) → 0 < length (syllables (marks o seen (map (bare (digits v)) ps)) ps)
    unfolding marks
    some_sung seen [] h = absurd (not-suc-le-zero h)
    some_sung seen (p ∷ ps) h = some_syllable _ _ p ps

    grouped_from : (d : ℕ) (seen : Bool) (ps : List (List ℕ)) → is_stress v d ≡ true
        → grouped (cuts_of v d (marks o seen (map (bare (digits v)) ps)) ps) (map (bare (digits v)) ps) ≡ sung_from d (syllables (marks o seen (map (bare (digits v)) ps)) ps)
    unfolding marks syllables cuts_of grouped last_stress
    grouped_from d seen [] h = refl
    grouped_from d seen (p ∷ ps) h =
        let xs = map (bare (digits v)) ps in
        let s = seen || is_vowel (bare (digits v) p) in
        let k = still_stress d p h in
        cases (cut o s xs)
        (λ e. let ih = grouped_from 48 false ps (zero_stress v) ∙ sung_from_lem (syllables (marks o false xs) ps) in
        rw (e, ne_eqb (stressed v d p) 0 (stress_never v (stressed v d p) k), ih) (unfold stressed in refl))
        (λ e. let ih = grouped_from (stressed v d p) s ps k in
        rw (e, ih) (first_sung d p (syllables (marks o s xs) ps) (some_sung s ps (some_left_lem o s xs e))))

    -- the last phone ends a syllable
    ended_from : (d : ℕ) (seen : Bool) (ps : List (List ℕ)) → is_stress v d ≡ true → Ended (cuts_of v d (marks o seen (map (bare (digits v)) ps)) ps)
    unfolding marks cuts_of
    ended_from d seen [] h = λ l. absurd (not-suc-le-zero l)
    ended_from d seen (p ∷ ps) h =
        let xs = map (bare (digits v)) ps in
        let s = seen || is_vowel (bare (digits v) p) in
        let k = still_stress d p h in
        cases (cut o s xs)
        (λ e. rw e (ended_more (stressed v d p) (cuts_of v 48 (marks o false xs) ps) (λ z. stress_never v (stressed v d p) k) (ended_from 48 false ps (zero_stress v))))
        (λ e. let n = length_cuts (stressed v d p) (marks o s xs) ps (length_marks o s xs ∙ length-map ps (bare (digits v))) in
        let l = some_left_lem o s xs e in
        rw e (ended_more 0 (cuts_of v (stressed v d p) (marks o s xs) ps) (λ z. absurd (omega (arith, length-map ps (bare (digits v))))) (ended_from (stressed v d p) s ps k)))

  -- the cuts of a word's phones
  module _ (ps : List (List ℕ)) where
    abbrev pub own_marks : List ℕ
    own_marks = marks onsets false (map (bare (digits v)) ps)

    pub cuts_sung : grouped (cuts_of v 48 own_marks ps) (map (bare (digits v)) ps) ≡ map (sung v) (syllables own_marks ps)
    cuts_sung = grouped_from onsets 48 false ps (zero_stress v) ∙ sung_from_lem (syllables own_marks ps)

    pub length_own : length own_marks ≡ length ps
    length_own = length_marks onsets false (map (bare (digits v)) ps) ∙ length-map ps (bare (digits v))

    pub cuts_ended : Ended (cuts_of v 48 own_marks ps)
    cuts_ended = ended_from onsets 48 false ps (zero_stress v)

    -- behind their marks anything may stand
    pub cuts_own : (more : List ℕ) → cuts_of v 48 (own_marks ++ more) ps ≡ cuts_of v 48 own_marks ps
    cuts_own more = cuts_front 48 own_marks more ps length_own
