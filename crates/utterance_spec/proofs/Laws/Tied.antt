-- The ties that putting a word last makes: item 0, the last word and the last phone are patched, and no other item changes.
-- Assumes nothing.
use Rattle.std.specs.Prelude.{ℕ, ◌+◌, ◌*◌, ◌≤◌, ◌<◌, ◌≡◌, refl, ◌≢◌, Bool, true, false, eqb, length}
use Rattle.std.proofs.Common.{arith, sym, ◌∙◌, eq-eqb, ne_eqb}
use Rattle.std.proofs.Math.Decide.{ℕ_discrete}
use Rattle.std.proofs.Math.Path.{ap}
use mathlib.Core.List.{List}
use Rattle.texts.specs.Choice.{when◌then◌else◌, cases}
use Rattle.records.specs.Fields.{put16, length_put16}
use Rattle.records.specs.Records.{record_at, put16_same, put16_other}
use Rattle.items_spec.specs.Item.{Item, item_of, is_clean}
use Rattle.items_spec.proofs.Laws.Patched.{patch_clean, patch_first, patch_last, patch_parent, patch_prev, patch_follow}
use Rattle.utterance_spec.specs.Append.{word_link, tied}
use Rattle.utterance_spec.proofs.Laws.Grown.{with_word}

-- which records the ties change
module _ (b : List ℕ) (lw lp n a l u : ℕ) where
  abbrev one : List ℕ
  one = put16 b (64 * lw + word_link lw) n

  abbrev two : List ℕ
  two = put16 one (64 * lp + 12) a

  abbrev three : List ℕ
  three = put16 two 6 n

  abbrev four : List ℕ
  four = put16 three 10 l

  pub length_tied : length (tied b lw lp n a l u) ≡ length b
  unfolding tied
  length_tied =
      length_put16 four 8 u ∙ length_put16 three 10 l ∙ length_put16 two 6 n ∙ length_put16 one (64 * lp + 12) a
      ∙ length_put16 b (64 * lw + word_link lw) n

  inside : word_link lw + 1 < 64
  inside = cases (eqb lw 0) (λ e. rw e (omega arith)) (λ e. rw e (omega arith))

  -- past item 0 only the first two ties count
  behind : (j : ℕ) → j ≢ 0 → record_at 64 (tied b lw lp n a l u) j ≡ record_at 64 two j
  unfolding tied
  behind j ne =
      put16_other 64 four 0 8 u (omega arith) j ne ∙ put16_other 64 three 0 10 l (omega arith) j ne ∙ put16_other 64 two 0 6 n (omega arith) j ne

  pub tied_other : (j : ℕ) → j ≢ 0 → j ≢ lw → j ≢ lp → record_at 64 (tied b lw lp n a l u) j ≡ record_at 64 b j
  tied_other j ne nw np = behind j ne ∙ put16_other 64 one lp 12 a (omega arith) j np ∙ put16_other 64 b lw (word_link lw) n inside j nw

  pub tied_word : lw ≢ 0 → lw ≢ lp → record_at 64 (tied b lw lp n a l u) lw ≡ put16 (record_at 64 b lw) 2 n
  tied_word ne np =
      behind lw ne ∙ put16_other 64 one lp 12 a (omega arith) lw np
      ∙ put16_same 64 b lw (word_link lw) n inside ∙ rw (ne_eqb lw 0 ne)

  pub tied_phone : lp ≢ 0 → lp ≢ lw → record_at 64 (tied b lw lp n a l u) lp ≡ put16 (record_at 64 b lp) 12 a
  tied_phone ne nw =
      behind lp ne ∙ put16_same 64 one lp 12 a (omega arith)
      ∙ ap (λ (r : List ℕ). put16 r 12 a) (put16_other 64 b lw (word_link lw) n inside lp nw)

  -- item 0 has its first word if there was none, its first phone if there was none, and then the rest
  head_word : record_at 64 one 0 ≡ (when eqb lw 0 then put16 (record_at 64 b 0) 4 n else record_at 64 b 0)
  head_word = go (ℕ_discrete lw 0)
    where
      go : Dec (lw ≡ 0) → record_at 64 one 0 ≡ (when eqb lw 0 then put16 (record_at 64 b 0) 4 n else record_at 64 b 0)
      go (yes z) =
          ap (λ (j : ℕ). record_at 64 one j) (sym z) ∙ put16_same 64 b lw (word_link lw) n inside
          ∙ ap (λ (j : ℕ). put16 (record_at 64 b j) (word_link lw) n) z ∙ rw (eq-eqb lw 0 z)
      go (no z) = put16_other 64 b lw (word_link lw) n inside 0 (λ e. z (sym e)) ∙ rw (ne_eqb lw 0 z)

  head_phone : record_at 64 two 0 ≡ (when eqb lp 0 then put16 (record_at 64 one 0) 12 a else record_at 64 one 0)
  head_phone = go (ℕ_discrete lp 0)
    where
      go : Dec (lp ≡ 0) → record_at 64 two 0 ≡ (when eqb lp 0 then put16 (record_at 64 one 0) 12 a else record_at 64 one 0)
      go (yes z) =
          ap (λ (j : ℕ). record_at 64 two j) (sym z) ∙ put16_same 64 one lp 12 a (omega arith)
          ∙ ap (λ (j : ℕ). put16 (record_at 64 one j) 12 a) z ∙ rw (eq-eqb lp 0 z)
      go (no z) = put16_other 64 one lp 12 a (omega arith) 0 (λ e. z (sym e)) ∙ rw (ne_eqb lp 0 z)

  tied_zero : record_at 64 (tied b lw lp n a l u) 0 ≡ put16 (put16 (put16 (record_at 64 two 0) 6 n) 10 l) 8 u
  unfolding tied
  tied_zero =
      put16_same 64 four 0 8 u (omega arith)
      ∙ ap (λ (r : List ℕ). put16 r 8 u) (put16_same 64 three 0 10 l (omega arith) ∙ ap (λ (r : List ℕ). put16 r 10 l) (put16_same 64 two 0 6 n (omega arith)))

-- s has 64 bytes, is as clean as r, and holds item i
pub record Holds (r s : List ℕ) (i : Item) : Type 0 where
  pub long : length s ≡ 64
  pub clean : is_clean s ≡ is_clean r
  pub item : item_of s ≡ i

-- an item with other numbers
abbrev pub renumbered : ℕ → ℕ → ℕ → ℕ → ℕ → ℕ → Item → Item
renumbered next first last parent prev follow i = record { kind = i.kind; stress = i.stress; next = next; first = first; last = last; parent = parent; prev = prev; follow = follow; mark = i.mark; source = i.source; text = i.text }

step : (r s : List ℕ) (i : Item) (o v : ℕ) (f : Item → Item) → Holds r s i → o ≤ 12 → item_of (put16 s o v) ≡ f (item_of s) → Holds r (put16 s o v) (f i)
step r s i o v f h l e = record { long = length_put16 s o v ∙ h.long; clean = patch_clean s o v h.long l ∙ h.clean; item = e ∙ ap f h.item }

-- the ties made in one item, first and follow only if asked for
retied_head : (r : List ℕ) (n a l u : ℕ) (p q : Bool) → length r ≡ 64 → n < 65536 → a < 65536 → l < 65536 → u < 65536
    → Holds r (put16 (put16 (put16 (when q then put16 (when p then put16 r 4 n else r) 12 a else (when p then put16 r 4 n else r)) 6 n) 10 l) 8 u)
    (renumbered (item_of r).next (when p then n else (item_of r).first) n u l (when q then a else (item_of r).follow) (item_of r))
retied_head r n a l u p q long hn ha hl hu = go p q
  where
    rest : (s : List ℕ) (i : Item) → Holds r s i → Holds r (put16 (put16 (put16 s 6 n) 10 l) 8 u) (renumbered i.next i.first n u l i.follow i)
    rest s i h =
        let h₁ = step r s i 6 n (λ (i : Item). renumbered i.next i.first n i.parent i.prev i.follow i) h (omega arith) (patch_last s n h.long hn) in
        let s₁ : List ℕ = put16 s 6 n in
        let i₁ : Item = renumbered i.next i.first n i.parent i.prev i.follow i in
        let h₂ = step r s₁ i₁ 10 l (λ (i : Item). renumbered i.next i.first i.last i.parent l i.follow i) h₁ (omega arith) (patch_prev s₁ l h₁.long hl) in
        let s₂ : List ℕ = put16 s₁ 10 l in
        let i₂ : Item = renumbered i₁.next i₁.first i₁.last i₁.parent l i₁.follow i₁ in
        step r s₂ i₂ 8 u (λ (i : Item). renumbered i.next i.first i.last u i.prev i.follow i) h₂ (omega arith) (patch_parent s₂ u h₂.long hu)

    phone : (s : List ℕ) (i : Item) → Holds r s i → Holds r (put16 s 12 a) (renumbered i.next i.first i.last i.parent i.prev a i)
    phone s i h = step r s i 12 a (λ (i : Item). renumbered i.next i.first i.last i.parent i.prev a i) h (omega arith) (patch_follow s a h.long ha)

    same : Holds r r (item_of r)
    same = record { long = long; clean = refl; item = refl }

    word : Holds r (put16 r 4 n) (renumbered (item_of r).next n (item_of r).last (item_of r).parent (item_of r).prev (item_of r).follow (item_of r))
    word = step r r (item_of r) 4 n (λ (i : Item). renumbered i.next n i.last i.parent i.prev i.follow i) same (omega arith) (patch_first r n long hn)

    go : (p q : Bool) → Holds r (put16 (put16 (put16 (when q then put16 (when p then put16 r 4 n else r) 12 a else (when p then put16 r 4 n else r)) 6 n) 10 l) 8 u)
        (renumbered (item_of r).next (when p then n else (item_of r).first) n u l (when q then a else (item_of r).follow) (item_of r))
    go true true =
        let i : Item = renumbered (item_of r).next n (item_of r).last (item_of r).parent (item_of r).prev (item_of r).follow (item_of r) in
        rest (put16 (put16 r 4 n) 12 a) (renumbered i.next i.first i.last i.parent i.prev a i) (phone (put16 r 4 n) i word)
    go true false = rest (put16 r 4 n) (renumbered (item_of r).next n (item_of r).last (item_of r).parent (item_of r).prev (item_of r).follow (item_of r)) word
    go false true = rest (put16 r 12 a) (renumbered (item_of r).next (item_of r).first (item_of r).last (item_of r).parent (item_of r).prev a (item_of r)) (phone r (item_of r) same)
    go false false = rest r (item_of r) same

-- so item 0 has the word as its last
pub tied_head : (b : List ℕ) (lw lp n a l u : ℕ) → length (record_at 64 b 0) ≡ 64 → n < 65536 → a < 65536 → l < 65536 → u < 65536
    → (item_of (record_at 64 b 0)).last ≡ lw → (item_of (record_at 64 b 0)).prev ≡ lp
    → Holds (record_at 64 b 0) (record_at 64 (tied b lw lp n a l u) 0) (with_word n a l u (item_of (record_at 64 b 0)))
tied_head b lw lp n a l u long hn ha hl hu ew ep =
    rw (tied_zero b lw lp n a l u, head_phone b lw lp n a l u, head_word b lw lp n a l u, ew, ep)
    (retied_head (record_at 64 b 0) n a l u (eqb lw 0) (eqb lp 0) long hn ha hl hu)
