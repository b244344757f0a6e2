-- Theorems about `specs/Syllables.antt`: 01, Syllables: the marks after the phones of a list, for any list of onsets.
-- Assumes nothing.
use Rattle.std.specs.Prelude.{ℕ, ◌+◌, ◌≤◌, ◌<◌, ◌≡◌, refl, Bool, true, false, ◌||◌, List, [], ◌∷◌, ◌++◌, length, get_or, take, drop}
use Rattle.std.proofs.Common.{add-one, not-suc-le-zero, sym, append_assoc, append-nil, drop_of_length-le, drop-cons, take-suc}
use Rattle.texts.specs.Choice.{when◌then◌else◌, bit}
use Rattle.texts.specs.Lists.{place, place_turn, place_stop, place_end}
use Rattle.cells.specs.Cells.{length_phones_of}
use Rattle.phoneset.specs.Phones.{is_vowel}
use Rattle.syllabify.specs.Syllables.{joined, cut_at, cut, marks}

-- the laws of a loop to the first vowel
pub ruleset vowels_ahead = (place_turn, place_stop, place_end, length_phones_of)

-- the rules, where a phone follows
pub cut_more : (onsets : List (List ℕ)) (seen : Bool) (rest : List (List ℕ)) → 0 < length rest
    → cut onsets seen rest ≡ cut_at onsets seen (get_or rest 0 []) rest (place is_vowel rest)
unfolding cut
cut_more onsets seen [] h = absurd (not-suc-le-zero h)
cut_more onsets seen (next ∷ more) h = refl

pub cut_end : (onsets : List (List ℕ)) (seen : Bool) (rest : List (List ℕ)) → length rest ≤ 0 → cut onsets seen rest ≡ true
unfolding cut
cut_end onsets seen [] h = refl
cut_end onsets seen (next ∷ more) h = absurd (not-suc-le-zero h)

-- one turn of the loop that marks
pub marks_turn : (onsets : List (List ℕ)) (seen : Bool) (ps : List (List ℕ)) (i : ℕ) → i < length ps
    → (s m : Bool) → s ≡ (seen || is_vowel (get_or ps i [])) → m ≡ cut onsets s (drop (i + 1) ps)
    → marks onsets seen (drop i ps) ≡ bit m ∷ marks onsets (when m then false else s) (drop (i + 1) ps)
unfolding marks
marks_turn onsets seen ps i h s m es em = rw (em, es, drop-cons ps i [] h, add-one)

pub marks_end : (onsets : List (List ℕ)) (seen : Bool) (ps : List (List ℕ)) (i : ℕ) → length ps ≤ i → marks onsets seen (drop i ps) ≡ []
unfolding marks
marks_end onsets seen ps i h = rw (drop_of_length-le ps h)

join_append : (xs ys : List (List ℕ)) → joined (xs ++ ys) ≡ joined xs ++ joined ys
unfolding joined
join_append [] ys = refl
join_append (x ∷ xs) ys = rw (join_append xs ys) (sym (append_assoc x (joined xs) (joined ys)))

-- one phone more joined
pub joined_more : (ps : List (List ℕ)) (i : ℕ) → i < length ps → joined (take (i + 1) ps) ≡ joined (take i ps) ++ get_or ps i []
unfolding joined
joined_more ps i h = rw (add-one, take-suc ps i [] h, join_append, append-nil)
