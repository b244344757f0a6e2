-- Theorems about `specs/Search.antt`: 01, Lookup: the search for a word among the compiled entries. Only entries that it reads can be found damaged.
-- Assumes nothing.
use Prim.Native.Nat.{ℕ, zero, suc, ◌+◌, ◌-◌, ◌/◌, ◌≤◌, ◌<◌}
use native.Mathlib.Omega.{arith}
use Rattle.std.specs.Prelude.{◌≡◌, true, false, List, ltb, Ok, Err}
use Rattle.std.proofs.Math.Path.{refl, ap}
use Rattle.std.proofs.Common.{◌∙◌}
use borrow.Author.Tests.{ltb-true, lt-ltb, le-ltb, eq-eqb, ne_eqb}
use Rattle.texts.specs.Choice.{cases}
use Rattle.texts.specs.Laws.Library.{same_pointwise}
use Rattle.texts.specs.Text.{same, smaller}
use Rattle.compiled_spec.specs.Entries.{tag_of, word_of, is_whole, entry_at}
use Rattle.compiled_spec.specs.Search.{damaged, search, tagged}

module _ (index dat word : List ℕ) where
  -- more turns than entries are left change nothing
  fuel : (n m lo hi : ℕ) → hi - lo ≤ n → hi - lo ≤ m → search index dat word n lo hi ≡ search index dat word m lo hi
  unfolding search
  fuel zero zero lo hi h g = refl
  fuel zero (suc m) lo hi h g = rw (le-ltb lo hi (omega arith))
  fuel (suc n) zero lo hi h g = rw (le-ltb lo hi (omega arith))
  fuel (suc n) (suc m) lo hi h g =
      let up = fuel n m ((lo + hi) / 2 + 1) hi in
      let down = fuel n m lo ((lo + hi) / 2) in
      cases (ltb lo hi)
      (λ t. let lt = ltb-true lo hi t in
      rw (t, up (omega arith) (omega arith), down (omega arith) (omega arith)))
      (λ f. rw f)

-- one law for each turn of the halving, over as many turns as entries are left
module _ (index dat word : List ℕ) (lo hi : ℕ) where
  pub search_end : (n : ℕ) → hi ≤ lo → search index dat word n lo hi ≡ Ok lo
  unfolding search
  search_end zero h = refl
  search_end (suc n) h = rw (le-ltb lo hi h)

  module _ (more : lo < hi) where
    pub search_damaged : is_whole (entry_at index dat ((lo + hi) / 2)) ≡ false → search index dat word (hi - lo) lo hi ≡ Err damaged
    unfolding search
    search_damaged e = let n : hi - lo ≡ suc (hi - lo - 1) = omega arith in rw (n, lt-ltb lo hi more, e)

    pub search_up : is_whole (entry_at index dat ((lo + hi) / 2)) ≡ true
        → smaller (word_of (entry_at index dat ((lo + hi) / 2))) word ≡ true
        → search index dat word (hi - lo) lo hi ≡ search index dat word (hi - ((lo + hi) / 2 + 1)) ((lo + hi) / 2 + 1) hi
    unfolding search
    search_up e s =
        let n : hi - lo ≡ suc (hi - lo - 1) = omega arith in
        rw (n, lt-ltb lo hi more, e, s) (fuel index dat word (hi - lo - 1) (hi - ((lo + hi) / 2 + 1)) ((lo + hi) / 2 + 1) hi (omega arith) (omega arith))

    pub search_down : is_whole (entry_at index dat ((lo + hi) / 2)) ≡ true
        → smaller (word_of (entry_at index dat ((lo + hi) / 2))) word ≡ false
        → search index dat word (hi - lo) lo hi ≡ search index dat word ((lo + hi) / 2 - lo) lo ((lo + hi) / 2)
    unfolding search
    search_down e s =
        let n : hi - lo ≡ suc (hi - lo - 1) = omega arith in
        rw (n, lt-ltb lo hi more, e, s) (fuel index dat word (hi - lo - 1) ((lo + hi) / 2 - lo) lo ((lo + hi) / 2) (omega arith) (omega arith))

-- one law for each turn along the run of equal words
module _ (index dat word : List ℕ) (tag lo n i : ℕ) where
  pub tagged_end : n ≤ 0 → tagged index dat word tag lo n i ≡ Ok lo
  unfolding tagged
  tagged_end h = let e : n ≡ 0 = omega arith in rw e

  module _ (more : 0 < n) where
    pub tagged_damaged : is_whole (entry_at index dat i) ≡ false → tagged index dat word tag lo n i ≡ Err damaged
    unfolding tagged
    tagged_damaged e = let k : n ≡ suc (n - 1) = omega arith in rw (k, e)

    module _ (whole : is_whole (entry_at index dat i) ≡ true) where
      pub tagged_other : same (word_of (entry_at index dat i)) word ≡ false → tagged index dat word tag lo n i ≡ Ok lo
      unfolding tagged
      tagged_other e = let k : n ≡ suc (n - 1) = omega arith in rw (k, whole, e)

      module _ (equal : same (word_of (entry_at index dat i)) word ≡ true) where
        pub tagged_stop : tag_of (entry_at index dat i) ≡ tag → tagged index dat word tag lo n i ≡ Ok i
        unfolding tagged
        tagged_stop e = let k : n ≡ suc (n - 1) = omega arith in rw (k, whole, equal, eq-eqb (tag_of (entry_at index dat i)) tag e)

        pub tagged_turn : (tag_of (entry_at index dat i) ≡ tag → ⊥) → tagged index dat word tag lo n i ≡ tagged index dat word tag lo (n - 1) (i + 1)
        unfolding tagged
        tagged_turn e =
            let k : n ≡ suc (n - 1) = omega arith in
            ap (λ (m : ℕ). tagged index dat word tag lo m i) k ∙ rw (whole, equal, ne_eqb (tag_of (entry_at index dat i)) tag e)

-- these laws for the proofs of both loops
pub ruleset halving = (search_end, search_damaged, search_up, search_down)

pub ruleset walking = (tagged_end, tagged_damaged, tagged_other, tagged_stop, tagged_turn, same_pointwise)
