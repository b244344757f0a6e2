-- A word that was pronounced may stand on a sheet: it has a source, its syllables have phones, and a stress of the sheet's version; its phones
-- have at most 15 bytes, all below 128.
-- Assumes nothing.
use Rattle.std.specs.Prelude.{ℕ, ◌-◌, ◌≡◌, Bool, true, ◌&&◌, eqb, leb, length, take}
use Rattle.std.proofs.Common.{arith, length-take, leb-true, le-leb}
use Rattle.std.proofs.Math.Path.{refl}
use Rattle.std.proofs.Math.Bool.{false}
use mathlib.Core.List.{List, [], ◌∷◌, map}
use Rattle.std.proofs.Math.ListN.{length-map}
use Rattle.texts.specs.Choice.{when◌then◌else◌, both_true, cases}
use Rattle.texts.specs.Lists.{every}
use Rattle.texts.specs.Text.{ascii, is_word, is_phone, ascii_take}
use Rattle.versions.specs.Versions.{digits, is_stress}
use Rattle.versions.proofs.Laws.Stresses.{zero_stress}
use Rattle.phoneset.specs.Stress.{is_stressed, stress, bare}
use Rattle.onsets.specs.Onsets.{onsets}
use Rattle.syllabify.specs.Syllables.{marks, syllables, on_first}
use Rattle.items_spec.specs.Item.{is_source}
use Rattle.utterance_spec.specs.Append.{is_syllable, is_said}
use Rattle.slots_spec.specs.Slot.{Entry, fits}
use Rattle.lts_spec.specs.Letters.{is_trees}
use Rattle.compiled_spec.specs.Lexicon.{is_lexicon}
use Rattle.pipeline_spec.specs.Pronounced.{Sections, phones, pronounced, last_stress, sung, said}
use Rattle.pipeline_spec.proofs.Laws.Fits.{digit, pronounced_source, pronounced_fits}

last_stress_lem : (v d : ℕ) (ps : List (List ℕ)) → is_stress v d ≡ true → is_stress v (last_stress v d ps) ≡ true
unfolding last_stress
last_stress_lem v d [] h = h
last_stress_lem v d (p ∷ ps) h =
    last_stress_lem v (when is_stressed (digits v) p then stress (digits v) p else d) ps (cases (is_stressed (digits v) p) (λ e. rw e (digit v p e)) (λ e. rw e h))

-- the bare phone is a front part
bare_fits : (ds p : List ℕ) → is_phone p ≡ true → is_phone (bare ds p) ≡ true
unfolding bare is_phone
bare_fits ds p h =
    let b = both_true (leb (length p) 15) (ascii p) h in
    let l = leb-true (length p) 15 b.0 in
    let t = length-take (length p - 1) p in
    cases (is_stressed ds p)
    (λ e. rw (e, le-leb (length (take (length p - 1) p)) 15 (omega arith), ascii_take (length p - 1) p b.1))
    (λ e. rw (e, b.0, b.1))

bares_fit : (ds : List ℕ) (ps : List (List ℕ)) → every is_phone ps ≡ true → every is_phone (map (bare ds) ps) ≡ true
unfolding every
bares_fit ds [] h = refl
bares_fit ds (p ∷ ps) h = let b = both_true (is_phone p) (every is_phone ps) h in rw (bare_fits ds p b.0) (bares_fit ds ps b.1)

-- a group of phones that makes a syllable
is_group : List (List ℕ) → Bool
is_group g = leb 1 (length g) && every is_phone g

first_group : (x : List ℕ) (gs : List (List (List ℕ))) → is_phone x ≡ true → every is_group gs ≡ true → every is_group (on_first x gs) ≡ true
unfolding every is_group
first_group x [] p h = rw p
first_group x (g ∷ gs) p h =
    let b = both_true (leb 1 (length g) && every is_phone g) (every is_group gs) h in
    let c = both_true (leb 1 (length g)) (every is_phone g) b.0 in
    rw (le-leb 1 (length (x ∷ g)) (omega arith), p, c.1, b.1)

groups : (ms : List ℕ) (ps : List (List ℕ)) → every is_phone ps ≡ true → every is_group (syllables ms ps) ≡ true
unfolding syllables every is_group
groups [] ps h = refl
groups (m ∷ ms) [] h = refl
groups (m ∷ ms) (p ∷ ps) h =
    let b = both_true (is_phone p) (every is_phone ps) h in
    let ih = groups ms ps b.1 in
    cases (eqb m 1)
    (λ e. rw (e, b.0) ih)
    (λ e. rw e (first_group p (syllables ms ps) b.0 ih))

-- by the version
module _ (v : ℕ) where
  group_sung : (g : List (List ℕ)) → is_group g ≡ true → is_syllable v (sung v g) ≡ true
  unfolding is_syllable sung is_group
  group_sung g h =
      let b = both_true (leb 1 (length g)) (every is_phone g) h in
      rw (last_stress_lem v 48 g (zero_stress v), length-map g (bare (digits v)), b.0, bares_fit (digits v) g b.1)

  all_sung : (gs : List (List (List ℕ))) → every is_group gs ≡ true → every (is_syllable v) (map (sung v) gs) ≡ true
  unfolding every
  all_sung [] h = refl
  all_sung (g ∷ gs) h = let b = both_true (is_group g) (every is_group gs) h in rw (group_sung g b.0) (all_sung gs b.1)

  phones_said : (word : List ℕ) (source : ℕ) (ps : List (List ℕ)) → is_word word ≡ true → is_source source ≡ true → every is_phone ps ≡ true
      → is_said v (said v word source ps) ≡ true
  unfolding is_said said
  phones_said word source ps w s h =
      let ms = marks onsets false (map (bare (digits v)) ps) in
      rw (w, s) (all_sung (syllables ms ps) (groups ms ps h))

  pub pronounced_stands : (c : Sections) (es : List Entry) (word tag : List ℕ) → every fits es ≡ true
      → is_lexicon c.lex_phones c.lex_index ≡ true → is_trees c.lts_phones c.lts_index c.lts_model ≡ true → is_word word ≡ true
      → (source place : ℕ) (ps : List (List ℕ)) → pronounced c es word tag ≡ phones source place ps → is_said v (said v word source ps) ≡ true
  pronounced_stands c es word tag h lexicon trees w source place ps e =
      let s = pronounced_source c es word tag h lexicon trees source place ps e in
      let f = pronounced_fits c es word tag h lexicon trees source place ps e in
      phones_said word source ps w s f
