-- A chosen entry is one of those that the index counts.
-- Assumes nothing.
use Prim.Native.Nat.{ℕ, zero, suc, ◌+◌, ◌-◌, ◌≤◌, ◌<◌}
use native.Mathlib.Omega.{arith}
use Rattle.std.specs.Prelude.{List, eqb, ltb, Some, None, Result, Ok, Err}
use borrow.Author.Tests.{ltb-true}
use Rattle.texts.specs.Choice.{cases}
use Rattle.texts.specs.Text.{same}
use Rattle.compiled_spec.specs.declared.Damaged.{Damaged}
use Rattle.compiled_spec.specs.Entries.{tag_of, word_of, is_whole, count, entry_at}
use Rattle.compiled_spec.specs.Search.{Chosen, this, search, tagged, from_place, on_place, chosen}

abbrev pub Below : ℕ → Chosen → Type 0
Below n (Err e) = Unit {0}
Below n (Ok None) = Unit {0}
Below n (Ok (Some i)) = i < n

module _ (index dat word : List ℕ) (tag : ℕ) where
  tagged_below : (lo n i : ℕ) → lo < count index → i + n ≤ count index → Below (count index) (this (tagged index dat word tag lo n i))
  unfolding tagged
  tagged_below lo zero i h k = h
  tagged_below lo (suc n) i h k =
      let ih = tagged_below lo n (i + 1) h (omega arith) in
      let here : i < count index = omega arith in
      cases (is_whole (entry_at index dat i))
      (λ w. cases (same (word_of (entry_at index dat i)) word)
      (λ s. cases (eqb (tag_of (entry_at index dat i)) tag) (λ t. rw (w, s, t) here) (λ t. rw (w, s, t) ih))
      (λ s. rw (w, s) h))
      (λ w. rw w tt)

  from_below : (lo : ℕ) → Below (count index) (from_place index dat word tag lo)
  unfolding from_place
  from_below lo =
      cases (ltb lo (count index))
      (λ l. let h = ltb-true lo (count index) l in
      let t = tagged_below lo (count index - lo) lo h (omega arith) in
      cases (is_whole (entry_at index dat lo))
      (λ w. cases (same (word_of (entry_at index dat lo)) word) (λ s. rw (l, w, s) t) (λ s. rw (l, w, s) tt))
      (λ w. rw (l, w) tt))
      (λ l. rw l tt)

  pub below : Below (count index) (chosen index dat word tag)
  unfolding chosen
  below = go (search index dat word (count index) 0 (count index))
    where
      go : (c : Result ℕ Damaged) → Below (count index) (on_place index dat word tag c)
      go (Err e) = tt
      go (Ok lo) = from_below lo
