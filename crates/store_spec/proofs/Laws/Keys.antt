-- The adding rule on lists of entries: keys that differ still differ, and what goes is the one entry of that key.
-- Assumes nothing.
use Rattle.std.specs.Prelude.{ℕ, ◌+◌, ◌≡◌, refl, Bool, true, false, not, ◌&&◌, ◌||◌, List, [], ◌∷◌, ◌++◌, eqb, length}
use Rattle.std.proofs.Common.{arith, sym, ◌∙◌, eqb-true, eq-eqb}
use Rattle.std.specs.Bool.{beq}
use Rattle.std.proofs.lemmas.Bool.{not-true}
use Rattle.texts.specs.Choice.{bit, both_true, cases, never, is_false}
use Rattle.texts.specs.Lists.{some}
use Rattle.texts.specs.Text.{agree, same, same_true, same_refl}
use Rattle.slots_spec.specs.Slot.{Entry}
use Rattle.store_spec.specs.Store.{is_wanted, same_key, keys_differ}
use Rattle.store_spec.specs.Adding.{without, adding}

pub either_false : (a b : Bool) → (a || b) ≡ false → (a ≡ false) × (b ≡ false)
either_false true b h = never true refl h
either_false false b h = (refl, h)

-- two answers that are equal
beq_true : (a b : Bool) → beq a b ≡ true → a ≡ b
beq_true true true h = refl
beq_true true false h = never true refl (sym h)
beq_true false true h = h
beq_true false false h = refl

beq_refl : (a : Bool) → beq a a ≡ true
beq_refl true = refl
beq_refl false = refl

-- what a wanted entry has
pub wanted_true : (exact any : Bool) (word : List ℕ) (tag : ℕ) (e : Entry) → is_wanted exact any word tag e ≡ true
    → (e.exact ≡ exact) × (e.word ≡ word) × (agree any e.tag tag ≡ true)
unfolding is_wanted
wanted_true exact any word tag e h =
    let s = both_true (beq e.exact exact && same e.word word) (agree any e.tag tag) h in
    let x = both_true (beq e.exact exact) (same e.word word) s.0 in
    (beq_true e.exact exact x.0, same_true e.word word x.1, s.1)

-- entries of one key have one word and one tag, and are both exact or both not
pub key_true : (a b : Entry) → same_key a b ≡ true → (b.word ≡ a.word) × (b.tag ≡ a.tag) × (b.exact ≡ a.exact)
unfolding same_key agree
key_true a b h =
    let w = wanted_true a.exact false a.word a.tag b h in
    (w.1, go (eqb b.tag a.tag) refl w.2, w.0)
  where
    go : (t : Bool) → eqb b.tag a.tag ≡ t → agree false b.tag a.tag ≡ true → b.tag ≡ a.tag
    go true e h = eqb-true b.tag a.tag e
    go false e h = let z : false ≡ true = rw e at h in never false z refl

pub key_from : (a b : Entry) → b.word ≡ a.word → b.tag ≡ a.tag → b.exact ≡ a.exact → same_key a b ≡ true
unfolding same_key is_wanted agree
key_from a b w t x = rw (w, t, x, beq_refl a.exact, same_refl a.word, eq-eqb a.tag a.tag refl)

-- two entries have one key, or have not, whichever is named first
pub key_turn : (a b : Entry) → same_key a b ≡ true → same_key b a ≡ true
key_turn a b h = let k = key_true a b h in key_from b a (sym k.0) (sym k.1) (sym k.2)

pub key_flip : (a b : Entry) → same_key a b ≡ false → same_key b a ≡ false
key_flip a b h = is_false (same_key b a) (λ e. never (same_key a b) (key_turn b a e) h)

-- two entries of a key have that key alike
pub key_both : (a b c : Entry) → same_key a b ≡ true → same_key a c ≡ same_key b c
unfolding same_key
key_both a b c h = let k = key_true a b h in rw (k.0, k.1, k.2)

-- tests over two lists in a row
pub some_append : (f : Entry → Bool) (xs ys : List Entry) → some f (xs ++ ys) ≡ (some f xs || some f ys)
unfolding some
some_append f [] ys = refl
some_append f (x ∷ xs) ys = let ih = some_append f xs ys in cases (f x) (λ e. rw e) (λ e. rw (e, ih))

pub some_here : (f : Entry → Bool) (x : Entry) (xs : List Entry) → f x ≡ true → some f (x ∷ xs) ≡ true
unfolding some
some_here f x xs h = rw h

-- a test that no entry passes, none of those left passes
none_without : (f : Entry → Bool) (e : Entry) (xs : List Entry) → some f xs ≡ false → some f (without e xs) ≡ false
unfolding some without
none_without f e [] h = refl
none_without f e (x ∷ xs) h =
    let s = either_false (f x) (some f xs) h in
    let ih = none_without f e xs s.1 in
    cases (same_key e x) (λ k. rw (k, ih)) (λ k. rw (k, s.0, ih))

pub keys_adding : (e : Entry) (xs : List Entry) → keys_differ xs ≡ true → keys_differ (adding e xs) ≡ true
unfolding adding without keys_differ some
keys_adding e [] h = refl
keys_adding e (x ∷ xs) h =
    let s = both_true (not (some (same_key x) xs)) (keys_differ xs) h in
    let ih = keys_adding e xs s.1 in
    let n = none_without (same_key x) e xs (not-true (some (same_key x) xs) s.0) in
    cases (same_key e x)
    (λ k. rw (k, ih))
    (λ k. let m : some (same_key x) (without e xs ++ (e ∷ [])) ≡ false = some_append (same_key x) (without e xs) (e ∷ []) ∙ rw (n, key_flip e x k) in rw (k, m, ih))

-- no entry of that key: all stay
pub without_none : (e : Entry) (xs : List Entry) → some (same_key e) xs ≡ false → without e xs ≡ xs
unfolding without some
without_none e [] h = refl
without_none e (x ∷ xs) h =
    let s = either_false (same_key e x) (some (same_key e) xs) h in
    let ih = without_none e xs s.1 in
    rw (s.0, ih)

-- where no entry has the key of one, none has that of another with the same key
pub none_same : (e s : Entry) (zs : List Entry) → same_key e s ≡ true → some (same_key s) zs ≡ false → some (same_key e) zs ≡ false
unfolding some
none_same e s [] k h = refl
none_same e s (z ∷ zs) k h = let t = either_false (same_key s z) (some (same_key s) zs) h in rw (key_both e s z k, t.0) (none_same e s zs k t.1)

-- one entry of that key: it goes
pub without_one : (e s : Entry) (xs ys : List Entry) → some (same_key e) xs ≡ false → same_key e s ≡ true → keys_differ (xs ++ s ∷ ys) ≡ true
    → without e (xs ++ s ∷ ys) ≡ xs ++ ys
unfolding without some keys_differ
without_one e s [] ys h k d =
    let t = both_true (not (some (same_key s) ys)) (keys_differ ys) d in
    rw k (without_none e ys (none_same e s ys k (not-true (some (same_key s) ys) t.0)))
without_one e s (x ∷ xs) ys h k d =
    let a = either_false (same_key e x) (some (same_key e) xs) h in
    let t = both_true (not (some (same_key x) (xs ++ s ∷ ys))) (keys_differ (xs ++ s ∷ ys)) d in
    let ih = without_one e s xs ys a.1 k t.1 in
    rw (a.0, ih)

-- of entries whose keys differ at most one goes
pub one_goes : (e : Entry) (es : List Entry) → keys_differ es ≡ true → length (without e es) + bit (some (same_key e) es) ≡ length es
unfolding without some keys_differ
one_goes e [] d = refl
one_goes e (x ∷ xs) d =
    let t = both_true (not (some (same_key x) xs)) (keys_differ xs) d in
    let ih = one_goes e xs t.1 in
    cases (same_key e x)
    (λ k. let n = none_same e x xs k (not-true (some (same_key x) xs) t.0) in rw (k, without_none e xs n) (omega arith))
    (λ k. rw k (omega (arith, ih)))
