-- The numbers of a word's items, as the code finds them: the first and the last of its syllables and its phones.
-- Assumes nothing.
use Rattle.std.specs.Prelude.{ℕ, zero, suc, ◌+◌, ◌-◌, ◌≤◌, ◌<◌, ◌≡◌, eqb, cond, take, drop}
use Rattle.std.proofs.Common.{not-suc-le-zero, arith, ◌∙◌, length-drop, drop_of_length-le, length-take-le}
use Rattle.std.proofs.Math.Decide.{dec_le}
use Rattle.std.proofs.Math.Path.{refl, sym}
use mathlib.Core.List.{List, [], ◌∷◌, ◌++◌, append-nil}
use Rattle.std.proofs.Math.ListN.{length}
use Rattle.std.specs.List.{count_by}
use Rattle.std.proofs.lemmas.List.Sums.{sum_by-cons}
use Rattle.texts.specs.Choice.{cases}
use Rattle.texts.specs.Lists.{from, length_from}
use Rattle.records.specs.Chain.{end_of, end_append}
use Rattle.utterance_spec.specs.Tree.{Syllable, syllables_at, phones_in}
use Rattle.utterance_spec.specs.Append.{head_or, size_in, numbered}
use Rattle.utterance_spec.specs.Cuts.{on_head, grouped, Ended}
use Rattle.appending.specs.Laws.Grouped.{ends, span, ended_from, more_after, end_behind, grouped_from}

-- the first and the last of n numbers from k on
pub head_some : (d k n : ℕ) → 0 < n → head_or d (from k n) ≡ k
unfolding from
head_some d k zero h = absurd (not-suc-le-zero h)
head_some d k (suc n) h = refl

pub head_none : (d k n : ℕ) → n ≤ 0 → head_or d (from k n) ≡ d
unfolding from
head_none d k zero h = refl
head_none d k (suc n) h = absurd (not-suc-le-zero h)

pub end_from : (q k n : ℕ) → 0 < n → end_of q (from (k + 1) n) ≡ k + n
unfolding end_of from
end_from q k zero h = absurd (not-suc-le-zero h)
end_from q k (suc zero) h = refl
end_from q k (suc (suc n)) h =
    let e : suc (k + 1) ≡ suc k + 1 = omega arith in
    let ih = end_from (k + 1) (suc k) (suc n) (omega arith) in
    rw e (ih ∙ omega arith)

-- each syllable has a phone
abbrev Filled : List Syllable → Type 0
Filled [] = Unit {0}
Filled (y ∷ ys) = (0 < length y.phones) × Filled ys

filled_more : (p : List ℕ) (ys : List Syllable) → Filled ys → Filled (on_head p ys)
filled_more p [] f = (omega arith, tt)
filled_more p (y ∷ ys) f = (omega arith, f.1)

grouped_filled : (ms : List ℕ) (ps : List (List ℕ)) → Filled (grouped ms ps)
unfolding grouped
grouped_filled [] ps = tt
grouped_filled (m ∷ ms) [] = tt
grouped_filled (m ∷ ms) (p ∷ ps) =
    let ih = grouped_filled ms ps in
    cases (eqb m 0) (λ t. rw t (filled_more p (grouped ms ps) ih)) (λ t. rw t (omega arith, ih))

-- there are syllables where there are phones
some_more : (p : List ℕ) (ys : List Syllable) → 0 < length (on_head p ys)
some_more p [] = omega arith
some_more p (y ∷ ys) = omega arith

grouped_some : (ms : List ℕ) (ps : List (List ℕ)) → length ms ≡ length ps → 0 < length ms → 0 < length (grouped ms ps)
unfolding grouped
grouped_some [] ps l h = absurd (not-suc-le-zero h)
grouped_some (m ∷ ms) [] l h = absurd (omega arith)
grouped_some (m ∷ ms) (p ∷ ps) l h = cases (eqb m 0) (λ t. rw t (some_more p (grouped ms ps))) (λ t. rw t (omega arith))

-- the first syllable, the first phone and the last phone of syllables numbered from k on
first_syllable : (k : ℕ) (ys : List Syllable) → 0 < length ys → head_or 0 (syllables_at (numbered k ys)) ≡ k
unfolding numbered
first_syllable k [] h = absurd (not-suc-le-zero h)
first_syllable k (y ∷ ys) h = refl

head_append : (d : ℕ) (xs ys : List ℕ) → 0 < length xs → head_or d (xs ++ ys) ≡ head_or d xs
head_append d [] ys h = absurd (not-suc-le-zero h)
head_append d (x ∷ xs) ys h = refl

first_phone : (k : ℕ) (ys : List Syllable) → 0 < length ys → Filled ys → head_or 0 (phones_in (numbered k ys)) ≡ k + 1
unfolding numbered
first_phone k [] h f = absurd (not-suc-le-zero h)
first_phone k (y ∷ ys) h f =
    let n = length y.phones in
    let ps = phones_in (numbered (k + 1 + n) ys) in
    head_append 0 (from (k + 1) n) ps (rw (length_from (k + 1) n) f.0) ∙ head_some 0 (k + 1) n f.0

last_phone_lem : (q k : ℕ) (ys : List Syllable) → 0 < length ys → Filled ys → end_of q (phones_in (numbered (k + 1) ys)) ≡ k + size_in ys
unfolding numbered size_in
last_phone_lem q k [] h f = absurd (not-suc-le-zero h)
last_phone_lem q k (y ∷ []) h f =
    let n = length y.phones in
    rw append-nil (end_from q (k + 1) n f.0 ∙ omega arith)
last_phone_lem q k (y ∷ z ∷ ys) h f =
    let n = length y.phones in
    let ps = phones_in (numbered (k + 1 + 1 + n) (z ∷ ys)) in
    let e : k + 1 + 1 + n ≡ k + 1 + n + 1 = omega arith in
    let ih = last_phone_lem (end_of q (from (k + 1 + 1) n)) (k + 1 + n) (z ∷ ys) (omega arith) f.1 in
    end_append q (from (k + 1 + 1) n) ps ∙ rw e (ih ∙ omega arith)

-- the same of a word in bytes, whose syllables have phones: they are there where it has a phone
module _ (ms : List ℕ) (ps : List (List ℕ)) (l : length ms ≡ length ps) where
  none : length ms ≤ 0 → grouped ms ps ≡ []
  unfolding grouped
  none h = go ms h
    where
      go : (l : List ℕ) → length l ≤ 0 → grouped l ps ≡ []
      go [] z = refl
      go (m ∷ l) z = absurd (not-suc-le-zero z)

  pub syllable_at_lem : (k : ℕ) → head_or 0 (syllables_at (numbered k (grouped ms ps))) ≡ head_or 0 (from k (length ms))
  unfolding numbered
  syllable_at_lem k = go (dec_le (length ms) 0)
    where
      go : Dec (length ms ≤ 0) → head_or 0 (syllables_at (numbered k (grouped ms ps))) ≡ head_or 0 (from k (length ms))
      go (yes z) = rw (none z, head_none 0 k (length ms) z)
      go (no f) = first_syllable k (grouped ms ps) (grouped_some ms ps l (omega arith)) ∙ sym (head_some 0 k (length ms) (omega arith))

  pub phone_at : (k : ℕ) → head_or 0 (phones_in (numbered k (grouped ms ps))) ≡ head_or 0 (from (k + 1) (length ms))
  unfolding numbered
  phone_at k = go (dec_le (length ms) 0)
    where
      go : Dec (length ms ≤ 0) → head_or 0 (phones_in (numbered k (grouped ms ps))) ≡ head_or 0 (from (k + 1) (length ms))
      go (yes z) = rw (none z, head_none 0 (k + 1) (length ms) z)
      go (no f) =
          first_phone k (grouped ms ps) (grouped_some ms ps l (omega arith)) (grouped_filled ms ps)
          ∙ sym (head_some 0 (k + 1) (length ms) (omega arith))

  pub phone_last : (q k : ℕ) → end_of q (phones_in (numbered (k + 1) (grouped ms ps))) ≡ head_or q (from (k + size_in (grouped ms ps)) (length ms))
  unfolding numbered end_of
  phone_last q k = go (dec_le (length ms) 0)
    where
      go : Dec (length ms ≤ 0) → end_of q (phones_in (numbered (k + 1) (grouped ms ps))) ≡ head_or q (from (k + size_in (grouped ms ps)) (length ms))
      go (yes z) = rw (none z, head_none q (k + size_in []) (length ms) z)
      go (no f) =
          last_phone_lem q k (grouped ms ps) (grouped_some ms ps l (omega arith)) (grouped_filled ms ps)
          ∙ sym (head_some q (k + size_in (grouped ms ps)) (length ms) (omega arith))

-- how many items syllables have: one for each phone, and one for each that ends a syllable
size_more : (p : List ℕ) (ys : List Syllable) → 0 < length ys → size_in (on_head p ys) ≡ suc (size_in ys)
unfolding size_in
size_more p [] h = absurd (not-suc-le-zero h)
size_more p (y ∷ ys) h = omega arith

pub size_counted : (ms : List ℕ) (ps : List (List ℕ)) → length ms ≡ length ps → Ended ms → size_in (grouped ms ps) ≡ length ms + count_by ends ms
unfolding size_in grouped ends
size_counted [] ps l e = refl
size_counted (m ∷ ms) [] l e = absurd (omega arith)
size_counted (m ∷ ms) (p ∷ ps) l e =
    let ih = size_counted ms ps (omega arith) (ended_from (m ∷ ms) 1 e) in
    cases (eqb m 0)
    (λ t.
    let f = size_more p (grouped ms ps) (grouped_some ms ps (omega arith) (more_after m ms t e)) in
    rw (sum_by-cons (λ x. cond (ends x) 1 0) m ms, t) (omega arith))
    (λ t. rw (sum_by-cons (λ x. cond (ends x) 1 0) m ms, t) (omega arith))

-- from phone i to e stands a syllable, with all its items
abbrev pub Step : List ℕ → List (List ℕ) → ℕ → ℕ → Type 0
Step ms ps i e = (i < e) × (e ≤ length ms) × (size_in (grouped (drop i ms) (drop i ps)) ≡ 1 + (e - i) + size_in (grouped (drop e ms) (drop e ps)))

module _ (ms : List ℕ) (ps : List (List ℕ)) (i e : ℕ) (l : length ms ≡ length ps) (more : i < length ms) (ended : Ended ms) (end : e ≡ i + span (drop i ms)) where
  pub phones_long : length (take (e - i) (drop i ps)) ≡ e - i
  phones_long =
      let b = end_behind ms ps i e l more ended end in
      let d = length-drop i ps in
      length-take-le (e - i) (drop i ps) (omega arith)

  pub step : Step ms ps i e
  unfolding size_in
  step = let b = end_behind ms ps i e l more ended end in (b.0, b.1, rw (grouped_from ms ps i e l more ended end, phones_long))

  pub numbered_turn : (k : ℕ) → numbered k (grouped (drop i ms) (drop i ps)) ≡ record { at = k; phones = from (k + 1) (e - i) } ∷ numbered (k + 1 + (e - i)) (grouped (drop e ms) (drop e ps))
  unfolding numbered
  numbered_turn k = rw (grouped_from ms ps i e l more ended end, phones_long)

  pub last_turn : (p k : ℕ) → end_of p (syllables_at (numbered k (grouped (drop i ms) (drop i ps)))) ≡ end_of k (syllables_at (numbered (k + 1 + (e - i)) (grouped (drop e ms) (drop e ps))))
  unfolding end_of
  last_turn p k = rw (numbered_turn k)

-- past the last phone there is nothing
pub grouped_end : (ms : List ℕ) (ps : List (List ℕ)) (i : ℕ) → length ms ≤ i → grouped (drop i ms) (drop i ps) ≡ []
unfolding grouped
grouped_end ms ps i h = rw (drop_of_length-le ms h)
