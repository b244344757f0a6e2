-- Theorems about `specs/CheckedLookup.antt`: 01, Lookup as a call where check lexicon says yes: a word that neither store nor addenda have is answered by the first equal word with the exact tag, else by the first equal word, else by none; and no lookup is refused by 6.
-- Assumes nothing.
use Rattle.std.specs.Prelude.{ℕ, zero, suc, ◌-◌, ◌*◌, ◌≤◌, ◌<◌, Bool, true, false, ◌&&◌, List, [], ◌∷◌, eqb, ltb, length, get_or}
use Rattle.std.proofs.Common.{arith}
use Rattle.std.proofs.Math.Path.{◌≡◌, refl, ap}
use Rattle.std.proofs.Math.Option.{Option, none, some}
use borrow.Author.Tests.{ltb-true, ltb-false, eqb-true, eq-eqb}
use Rattle.texts.specs.Choice.{cases, never, both_true}
use Rattle.texts.specs.Lists.{every, some as any, place, first, place_le, up_to, length_from, get_d_from}
use Rattle.texts.specs.Text.{is_word, same_true, eq_same}
use Rattle.addenda.specs.Addenda.{Addendum, addenda}
use Rattle.addenda.specs.Find.{is_meant}
use Rattle.slots_spec.specs.Slot.{Entry}
use Rattle.store_spec.specs.Store.{is_sound, entries}
use Rattle.store_spec.proofs.Laws.Keys.{either_false}
use Rattle.compiled_spec.specs.Entries.{tag_of, word_of, is_whole, is_spoken, entry_phones, count, entry_at}
use Rattle.compiled_spec.proofs.Laws.Numbers.{below_at}
use Rattle.compiled_spec.specs.Lexicon.{is_lexicon, is_good, rises, is_checked}
use Rattle.check_lexicon.specs.CheckLexicon.{check_lexicon}
use Rattle.compiled_spec.specs.Checked.{is_equal, is_exact, first as first_entry}
use Rattle.check_lexicon.specs.Yes.{yes_checked, yes_first}
use Rattle.answers.specs.declared.Answer.{Answer}
use Rattle.answers.specs.declared.Source.TheVariants.{Compiled}
use Rattle.answers.specs.Told.{accepted}
use Rattle.lexicon_spec.specs.Lookup.{chosen_entry, Finding, nothing, damaged, found, wanted_tag, on_entry, on_row, from_compiled, find, told_finding, out_finding}
use Rattle.lookup.specs.Lookup.{lookup, looked_up}
use Rattle.lookup.proofs.LookupLaws.{lookup_on_entries}
use Rattle.lookup.specs.CheckedLookup.{Equal, Exact, First, Never, Answers, Undamaged, exact, equal, missing}

-- there is only one such answer
first_one : (P : ℕ → Type 0) (n i j : ℕ) → First P n i → First P n j → i ≡ j
first_one P n i j h k =
    cases (ltb i j)
    (λ e. absurd (k.2 i (ltb-true i j e) h.1))
    (λ e. cases (ltb j i)
    (λ f. absurd (h.2 j (ltb-true j i f) k.1))
    (λ f. omega (arith, ltb-false i j e, ltb-false j i f)))

module _ (phones index dat word : List ℕ) (tag : ℕ) where
  phones_at_lem : ℕ → Finding
  phones_at_lem i = found Compiled (entry_phones phones (entry_at index dat i))

  pub answers_one : (f g : Finding) → Answers phones index dat word tag f → Answers phones index dat word tag g → f ≡ g
  unfolding phones_at_lem
  answers_one f g (exact i h) (exact j k) = ap phones_at_lem (first_one (Exact index dat word tag) (count index) i j h k)
  answers_one f g (exact i h) (equal j n k) = absurd (n i h.0 h.1)
  answers_one f g (exact i h) (missing n) = absurd (n i h.0 h.1.0)
  answers_one f g (equal i n h) (exact j k) = absurd (n j k.0 k.1)
  answers_one f g (equal i n h) (equal j m k) = ap phones_at_lem (first_one (Equal index dat word) (count index) i j h k)
  answers_one f g (equal i n h) (missing m) = absurd (m i h.0 h.1)
  answers_one f g (missing n) (exact j k) = absurd (n j k.0 k.1.0)
  answers_one f g (missing n) (equal j m k) = absurd (n j k.0 k.1)
  answers_one f g (missing n) (missing m) = refl

-- the first number below n that passes a test
at_place : (f : ℕ → Bool) (l : List ℕ) → place f l < length l → f (get_or l (place f l) 0) ≡ true
unfolding place
at_place f [] h = absurd (omega arith)
at_place f (x ∷ xs) h =
    let ih = at_place f xs in
    cases (f x)
    (λ e. rw (e, e))
    (λ e. let k : suc (suc (place f xs)) ≤ suc (length xs) = rw e at h in rw e (ih (omega arith)))

before_place : (f : ℕ → Bool) (l : List ℕ) (j : ℕ) → j < place f l → f (get_or l j 0) ≡ false
unfolding place
before_place f [] j h = absurd (omega arith)
before_place f (x ∷ xs) zero h =
    cases (f x)
    (λ e. let k : suc zero ≤ zero = rw e at h in absurd (omega arith))
    (λ e. e)
before_place f (x ∷ xs) (suc j) h =
    let ih = before_place f xs j in
    cases (f x)
    (λ e. let k : suc (suc j) ≤ zero = rw e at h in absurd (omega arith))
    (λ e. let k : suc (suc j) ≤ suc (place f xs) = rw e at h in ih (omega arith))

module _ (f : ℕ → Bool) (n : ℕ) where
  number : (i : ℕ) → i < n → get_or (up_to n) i 0 ≡ i
  number i h = let e = get_d_from 0 n i 0 h in omega arith

  first_passes : place f (up_to n) < n → f (place f (up_to n)) ≡ true
  first_passes h = let l = length_from 0 n in rw (number (place f (up_to n)) h) at (at_place f (up_to n) (omega arith))

  earlier_fails : (j : ℕ) → j < place f (up_to n) → f j ≡ false
  earlier_fails j h =
      let l = length_from 0 n in
      let p = place_le f (up_to n) in
      rw (number j (omega arith)) at (before_place f (up_to n) j h)

-- tests of an entry, and what they say
module _ (index dat word : List ℕ) (tag : ℕ) where
  equal_fails : (j : ℕ) → is_equal index dat word j ≡ false → Equal index dat word j → ⊥
  equal_fails j f e = never (is_equal index dat word j) (eq_same (word_of (entry_at index dat j)) word e) f

  exact_fails : (j : ℕ) → is_exact index dat word tag j ≡ false → Exact index dat word tag j → ⊥
  exact_fails j f e =
      never (is_exact index dat word tag j) (rw (eq_same (word_of (entry_at index dat j)) word e.0, eq-eqb (tag_of (entry_at index dat j)) tag e.1)) f

  exact_passes : (i : ℕ) → is_exact index dat word tag i ≡ true → Exact index dat word tag i
  exact_passes i h =
      let b = both_true (is_equal index dat word i) (eqb (tag_of (entry_at index dat i)) tag) h in
      (same_true (word_of (entry_at index dat i)) word b.0, eqb-true (tag_of (entry_at index dat i)) tag b.1)

-- a list of which nothing passes has no first
first_never : {A : Type 0} (f : A → Bool) (l : List A) → any f l ≡ false → first f l ≡ none
unfolding first any
first_never f [] h = refl
first_never f (x ∷ xs) h =
    let b = either_false (f x) (any f xs) h in
    rw b.0 (first_never f xs b.1)

told_undamaged : (f : Finding) (out : List ℕ) → Undamaged f → (told_finding f out).refusal ≡ 6 → ⊥
told_undamaged nothing out u h = absurd (omega arith)
told_undamaged damaged out u h = u
told_undamaged (found s ps) out u h =
    cases (ltb 96 (length ps))
    (λ e. let z : ◌≡◌ {A = ℕ} 7 6 = rw e at h in omega arith)
    (λ e. cases (ltb (length out) (16 * length ps))
    (λ f. let z : ◌≡◌ {A = ℕ} 9 6 = rw (e, f) at h in omega arith)
    (λ f. let z : ◌≡◌ {A = ℕ} 0 6 = rw (e, f) at h in omega arith))

-- where check lexicon says yes
module _ (phones index dat : List ℕ) (checked : check_lexicon phones index dat ≡ accepted 1 0) where
  lexicon : is_lexicon phones index ≡ true
  unfolding check_lexicon
  lexicon = cases (is_lexicon phones index) (λ e. e) (λ e. let k = ap (λ (a : Answer). a.refusal) checked in let z : ◌≡◌ {A = ℕ} 1 0 = rw e at k in absurd (omega arith))

  -- every number of an entry has a phone
  spoken : (i : ℕ) → i < count index → is_spoken phones (entry_at index dat i) ≡ true
  unfolding is_checked is_good
  spoken i h =
      let good = yes_checked phones index dat checked in
      let all = (both_true (every (is_good phones index dat) (up_to (count index))) (every (rises index dat) (up_to (count index - 1))) good).0 in
      (both_true (is_whole (entry_at index dat i)) (is_spoken phones (entry_at index dat i)) (below_at (is_good phones index dat) (count index) all i h)).1

  -- there is such an answer: what the search comes to
  pub compiled_answers : (word : List ℕ) (tag : ℕ) → Answers phones index dat word tag (from_compiled phones index dat word tag)
  unfolding from_compiled first_entry
  compiled_answers word tag =
      let n = count index in
      let x = place (is_exact index dat word tag) (up_to n) in
      let q = place (is_equal index dat word) (up_to n) in
      rw (yes_first phones index dat checked word tag)
      (cases (ltb x n)
      (λ e.
      let h = ltb-true x n e in
      rw (e, spoken x h)
      (exact x (
        h,
        exact_passes index dat word tag x (first_passes (is_exact index dat word tag) n h),
        (λ j l. exact_fails index dat word tag j (earlier_fails (is_exact index dat word tag) n j l)),
      )))
      (λ e.
      let no : Never (Exact index dat word tag) n = λ j l. exact_fails index dat word tag j (earlier_fails (is_exact index dat word tag) n j (omega (arith, ltb-false x n e))) in
      cases (ltb q n)
      (λ f.
      let h = ltb-true q n f in
      rw (e, f, spoken q h)
      (equal q no (
        h,
        same_true (word_of (entry_at index dat q)) word (first_passes (is_equal index dat word) n h),
        (λ j l. equal_fails index dat word tag j (earlier_fails (is_equal index dat word) n j l)),
      )))
      (λ f.
      rw (e, f)
      (missing (λ j l. equal_fails index dat word tag j (earlier_fails (is_equal index dat word) n j (omega (arith, ltb-false q n f))))))))

  answers_undamaged : (word : List ℕ) (tag : ℕ) (f : Finding) → Answers phones index dat word tag f → Undamaged f
  answers_undamaged word tag f (exact i h) = tt
  answers_undamaged word tag f (equal i n h) = tt
  answers_undamaged word tag f (missing n) = tt

  entry_undamaged : (o : Option Entry) (rest : Finding) → Undamaged rest → Undamaged (on_entry o rest)
  entry_undamaged none rest u = u
  entry_undamaged (some e) rest u = tt

  row_undamaged : (o : Option Addendum) (rest : Finding) → Undamaged rest → Undamaged (on_row o rest)
  row_undamaged none rest u = u
  row_undamaged (some r) rest u = tt

  -- no word is found damaged
  pub find_undamaged : (es : List Entry) (word : List ℕ) (tag : ℕ) → Undamaged (find es phones index dat word tag)
  unfolding find
  find_undamaged es word tag =
      entry_undamaged (chosen_entry es word tag) (on_row (first (is_meant word tag) addenda) (from_compiled phones index dat word tag))
      (row_undamaged (first (is_meant word tag) addenda) (from_compiled phones index dat word tag)
      (answers_undamaged word tag (from_compiled phones index dat word tag) (compiled_answers word tag)))

  module _ (store word tag out : List ℕ) where
    -- no lookup is refused by 6
    pub never_damaged : (lookup phones index dat store word tag out).refusal ≡ 6 → ⊥
    unfolding lookup
    never_damaged h =
        cases (is_sound store)
        (λ s. cases (is_word word && is_word tag)
        (λ w. told_undamaged (find (entries store) phones index dat word (wanted_tag tag)) out (find_undamaged (entries store) word (wanted_tag tag)) (rw (lexicon, s, w) at h))
        (λ w. let z : ◌≡◌ {A = ℕ} 3 6 = rw (lexicon, s, w) at h in omega arith))
        (λ s. let z : ◌≡◌ {A = ℕ} 2 6 = rw (lexicon, s) at h in omega arith)

    -- a word that no runtime entry and no row of the addenda has: lookup's answer, and its output at exit, are those of that finding
    pub checked_lookup : is_sound store ≡ true → (is_word word && is_word tag) ≡ true
        → chosen_entry (entries store) word (wanted_tag tag) ≡ none → any (is_meant word (wanted_tag tag)) addenda ≡ false
        → (f : Finding) → Answers phones index dat word (wanted_tag tag) f
        → (lookup phones index dat store word tag out ≡ told_finding f out) × (looked_up phones index dat store word tag out ≡ out_finding f out)
    unfolding find
    checked_lookup s w r a f h =
        let l = lookup_on_entries phones index dat store word tag out lexicon s w in
        let e : find (entries store) phones index dat word (wanted_tag tag) ≡ from_compiled phones index dat word (wanted_tag tag) =
        rw (r, first_never (is_meant word (wanted_tag tag)) addenda a) in
        let o = answers_one phones index dat word (wanted_tag tag) (from_compiled phones index dat word (wanted_tag tag)) f (compiled_answers word (wanted_tag tag)) h in
        (rw (e, o) at l.0, rw (e, o) at l.1)
