-- Theorems about `specs/Checked.antt`: 01, Lookup: in a lexicon that check lexicon says yes to, a compiled answer is the first equal word with the exact tag, else the first equal word.
-- Assumes nothing.
use Rattle.std.specs.Prelude.{ℕ, zero, suc, ◌+◌, ◌-◌, ◌/◌, ◌≤◌, ◌<◌, ◌≡◌, true, false, List, eqb, ltb, None, Ok}
use native.Mathlib.Omega.{arith}
use Rattle.std.proofs.Common.{sym, ◌∙◌}
use Rattle.std.proofs.Math.Path.{ap}
use borrow.Author.Tests.{lt-ltb, le-ltb, ltb-true, ltb-false, eqb-true, eqb-false, not-true}
use Rattle.texts.specs.Choice.{when◌then◌else◌, cases, never, is_false, both_true}
use Rattle.texts.specs.Lists.{every, place, up_to}
use Rattle.texts.specs.Text.{smaller, same_true, eq_same}
use Rattle.compiled_spec.proofs.Laws.Numbers.{below_at, first_below, none_below}
use Rattle.compiled_spec.proofs.Laws.Order.{smaller_never_itself, smaller_neither, smaller_larger, larger_chain, smaller_not_same}
use Rattle.compiled_spec.specs.Entries.{tag_of, is_whole, is_spoken, count, entry_at}
use Rattle.compiled_spec.specs.Search.{this, search as searched, tagged, from_place, chosen}
use Rattle.compiled_spec.proofs.Search.{search_end, search_up, search_down, tagged_end, tagged_other, tagged_stop, tagged_turn}
use Rattle.compiled_spec.specs.Lexicon.{is_good, rises, is_checked}
use Rattle.compiled_spec.specs.Checked.{word_at, is_equal, is_exact, first}

-- what check lexicon's yes says of the words
module _ (phones index dat : List ℕ) (checked : is_checked phones index dat ≡ true) where
  whole : (i : ℕ) → i < count index → is_whole (entry_at index dat i) ≡ true
  unfolding is_checked is_good
  whole i h =
      let good = (both_true (every (is_good phones index dat) (up_to (count index))) (every (rises index dat) (up_to (count index - 1))) checked).0 in
      (both_true (is_whole (entry_at index dat i)) (is_spoken phones (entry_at index dat i)) (below_at (is_good phones index dat) (count index) good i h)).0

  next : (i : ℕ) → i < count index - 1 → smaller (word_at index dat (i + 1)) (word_at index dat i) ≡ false
  unfolding is_checked rises
  next i h =
      let rise = (both_true (every (is_good phones index dat) (up_to (count index))) (every (rises index dat) (up_to (count index - 1))) checked).1 in
      not-true (smaller (word_at index dat (i + 1)) (word_at index dat i)) (below_at (rises index dat) (count index - 1) rise i h)

  -- words don't fall
  climb : (i k : ℕ) → i + k < count index → smaller (word_at index dat (i + k)) (word_at index dat i) ≡ false
  climb i zero h = let e : i + 0 ≡ i = omega arith in rw e (smaller_never_itself (word_at index dat i))
  climb i (suc k) h =
      let e : i + suc k ≡ i + k + 1 = omega arith in
      rw e (larger_chain (word_at index dat i) (word_at index dat (i + k)) (word_at index dat (i + k + 1))
      (climb i k (omega arith)) (next (i + k) (omega arith)))

  rise : (i j : ℕ) → i ≤ j → j < count index → smaller (word_at index dat j) (word_at index dat i) ≡ false
  rise i j h g = let e : i + (j - i) ≡ j = omega arith in rw e at (climb i (j - i) (omega arith))

  module _ (word : List ℕ) where
    -- the words below entry p are smaller, the others are not
    record Split (p : ℕ) : Type 0 where
      low : (i : ℕ) → i < p → smaller (word_at index dat i) word ≡ true
      high : (i : ℕ) → p ≤ i → i < count index → smaller (word_at index dat i) word ≡ false

    -- the search ends at the first entry that is not smaller
    split : (k lo hi : ℕ) → hi - lo ≤ k → lo ≤ hi → hi ≤ count index
        → ((i : ℕ) → i < lo → smaller (word_at index dat i) word ≡ true)
        → ((i : ℕ) → hi ≤ i → i < count index → smaller (word_at index dat i) word ≡ false)
        → (p : ℕ) × (searched index dat word (hi - lo) lo hi ≡ Ok p) × Split p
    split zero lo hi short order inside low high =
        (lo, search_end index dat word lo hi (hi - lo) (omega arith), record { low = low; high = λ i h. high i (omega arith) })
    split (suc k) lo hi short order inside low high =
        let mid = (lo + hi) / 2 in
        let up = split k (mid + 1) hi in
        let down = split k lo mid in
        cases (ltb lo hi)
        (λ t. let more = ltb-true lo hi t in
        let w = whole mid (omega arith) in
        cases (smaller (word_at index dat mid) word)
        (λ s. let r = up (omega arith) (omega arith) inside
        (λ i h. smaller_larger (word_at index dat i) (word_at index dat mid) word (rise i mid (omega arith) (omega arith)) s)
        high in
        (r.0, search_up index dat word lo hi more w s ∙ r.1, r.2))
        (λ s. let r = down (omega arith) (omega arith) (omega arith) low
        (λ i h g. larger_chain word (word_at index dat mid) (word_at index dat i) s (rise mid i h g)) in
        (r.0, search_down index dat word lo hi more w s ∙ r.1, r.2)))
        (λ f. let past = ltb-false lo hi f in
        (lo, search_end index dat word lo hi (hi - lo) past, record { low = low; high = λ i h. high i (omega arith) }))

    -- where the run of equal words ends, it does not start again
    apart : (i : ℕ) → smaller (word_at index dat i) word ≡ false → is_equal index dat word i ≡ false
        → (j : ℕ) → i ≤ j → j < count index → is_equal index dat word j ≡ false
    apart i s e j h g =
        is_false (is_equal index dat word j) (λ t. let d = same_true (word_at index dat j) word t in
        let r = rw d at (rise i j h g) in
        never (is_equal index dat word i) (eq_same (word_at index dat i) word (smaller_neither (word_at index dat i) word s r)) e)

    missing : (tag : ℕ) → ((j : ℕ) → j < count index → is_equal index dat word j ≡ false) → first index dat word tag ≡ Ok None
    unfolding first
    missing tag fails =
        rw (
          none_below (is_exact index dat word tag) (count index) (λ j h. rw (fails j h)),
          none_below (is_equal index dat word) (count index) fails,
          le-ltb (count index) (count index) (omega arith),
        )

    module _ (tag p : ℕ) (s : Split p) where
      -- along the run from entry p on, whose entries up to i have other tags
      run : (k i : ℕ) → i + k ≡ count index → p ≤ i → ((j : ℕ) → j < i → is_exact index dat word tag j ≡ false)
          → tagged index dat word tag p k i ≡ (when ltb (place (is_exact index dat word tag) (up_to (count index))) (count index) then Ok (place (is_exact index dat word tag) (up_to (count index))) else Ok p)
      run zero i end h fails =
          tagged_end index dat word tag p 0 i (omega arith)
          ∙ rw (none_below (is_exact index dat word tag) (count index) (λ j g. fails j (omega arith)), le-ltb (count index) (count index) (omega arith))
      run (suc k) i end h fails =
          let w = whole i (omega arith) in
          let ih = run k (i + 1) (omega arith) (omega arith) in
          let m : suc k - 1 ≡ k = omega arith in
          cases (is_equal index dat word i)
          (λ e. cases (eqb (tag_of (entry_at index dat i)) tag)
          (λ t. let x = first_below (is_exact index dat word tag) (count index) i (omega arith) (rw (e, t)) fails in
          tagged_stop index dat word tag p (suc k) i (omega arith) w e (eqb-true (tag_of (entry_at index dat i)) tag t)
          ∙ rw (x, lt-ltb i (count index) (omega arith)))
          (λ t. tagged_turn index dat word tag p (suc k) i (omega arith) w e (eqb-false (tag_of (entry_at index dat i)) tag t)
          ∙ rw m (ih (λ j g. cases (ltb j i)
          (λ l. fails j (ltb-true j i l))
          (λ l. let q : j ≡ i = omega (arith, ltb-false j i l) in rw (q, e, t))))))
          (λ e. tagged_other index dat word tag p (suc k) i (omega arith) w e
          ∙ rw (
            none_below (is_exact index dat word tag) (count index) (λ j g. cases (ltb j i)
                (λ l. fails j (ltb-true j i l))
                (λ l. rw (apart i (s.high i h (omega arith)) e j (ltb-false j i l) g))),
            le-ltb (count index) (count index) (omega arith),
          ))

      before : (j : ℕ) → j < p → is_equal index dat word j ≡ false
      before j h = smaller_not_same (word_at index dat j) word (s.low j h)

      found : p < count index → is_equal index dat word p ≡ true → this (tagged index dat word tag p (count index - p) p) ≡ first index dat word tag
      unfolding first
      found h e =
          rw (
            first_below (is_equal index dat word) (count index) p h e before,
            lt-ltb p (count index) h,
            run (count index - p) p (omega arith) (omega arith) (λ j g. rw (before j g)),
          ) (cases (ltb (place (is_exact index dat word tag) (up_to (count index))) (count index)) (λ t. rw t) (λ t. rw t))

      told : from_place index dat word tag p ≡ first index dat word tag
      unfolding from_place
      told =
          cases (ltb p (count index))
          (λ t. let h = ltb-true p (count index) t in
          cases (is_equal index dat word p)
          (λ e. rw (t, whole p h, e) (found h e))
          (λ e. rw (t, whole p h, e) (sym (missing tag (λ j g. cases (ltb j p)
          (λ l. before j (ltb-true j p l))
          (λ l. apart p (s.high p (omega arith) h) e j (ltb-false j p l) g))))))
          (λ f. rw f (sym (missing tag (λ j g. before j (omega (arith, ltb-false p (count index) f))))))

    answer : (tag : ℕ) → chosen index dat word tag ≡ first index dat word tag
    unfolding chosen
    answer tag =
        let r = split (count index) 0 (count index) (omega arith) (omega arith) (omega arith) (λ i h. absurd (omega arith)) (λ i h g. absurd (omega arith)) in
        let z : count index - 0 ≡ count index = omega arith in
        let e = ap (λ (k : ℕ). searched index dat word k 0 (count index)) (sym z) ∙ r.1 in
        rw e (told tag r.0 r.2)

-- a compiled answer in a checked lexicon
pub checked_first : (phones index dat : List ℕ) → is_checked phones index dat ≡ true
    → (word : List ℕ) (tag : ℕ) → chosen index dat word tag ≡ first index dat word tag
checked_first phones index dat checked word tag = answer phones index dat checked word tag
