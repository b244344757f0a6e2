-- Entries of one folded word: a lookup finds what it finds among those of its own word, and adding an entry leaves those of every other as they are.
-- Assumes nothing.
use Rattle.std.specs.Prelude.{ℕ, ◌≡◌, refl, Bool, true, false, List, [], ◌∷◌, ◌++◌, map}
use Rattle.std.proofs.Common.{ap, ◌∙◌, append-nil}
use Rattle.texts.specs.Choice.{cases, never, is_false}
use Rattle.texts.specs.Lists.{first}
use Rattle.texts.specs.Text.{folded, same, same_refl}
use Rattle.slots_spec.specs.Slot.{Entry}
use Rattle.slots_spec.proofs.Slot.{fold_folded, folded_small}
use Rattle.store_spec.specs.Store.{is_wanted, same_key}
use Rattle.store_spec.specs.Adding.{without, adding, entry_for}
use Rattle.store_spec.proofs.Laws.Keys.{wanted_true, key_true}
use Rattle.lexicon_spec.specs.Adding.{stored_word, new_entry}
use Rattle.lexicon_spec.specs.Lookup.{chosen_entry, find}
use Rattle.addtext_spec.specs.Filling.{adding_all}
use Rattle.entry_order.specs.Calls.{those}

-- an entry of a folded word
unfoldable pub is_of : List ℕ → Entry → Bool
is_of w e = same (map folded e.word) w

those_append : {A : Type 0} (f : A → Bool) (xs ys : List A) → those f (xs ++ ys) ≡ those f xs ++ those f ys
unfolding those
those_append f [] ys = refl
those_append f (x ∷ xs) ys = let ih = those_append f xs ys in cases (f x) (λ p. rw (p, ih)) (λ p. rw p ih)

-- a test of what a function makes
pub those_map : {A B : Type 0} (h : A → B) (f : B → Bool) (g : A → Bool) → ((x : A) → f (h x) ≡ g x) → (xs : List A)
    → those f (map h xs) ≡ map h (those g xs)
unfolding those
those_map h f g n [] = refl
those_map h f g n (x ∷ xs) = let ih = those_map h f g n xs in cases (g x) (λ p. rw (n x, p, ih)) (λ p. rw (n x, p, ih))

-- the first that passes a narrower test
first_those : (f g : Entry → Bool) (es : List Entry) → ((e : Entry) → f e ≡ true → g e ≡ true) → first f (those g es) ≡ first f es
unfolding first those
first_those f g [] n = refl
first_those f g (x ∷ xs) n =
    let ih = first_those f g xs n in
    cases (f x)
    (λ p. rw (n x p, p))
    (λ p. cases (g x) (λ q. rw (q, p) ih) (λ q. rw (q, p) ih))

-- a word as it is stored folds as it does when it is handed in
stored_folds : (word tag phones : List ℕ) (exact : Bool) → map folded (new_entry word tag phones exact).word ≡ map folded word
unfolding new_entry entry_for stored_word
stored_folds word tag phones true = refl
stored_folds word tag phones false = fold_folded (map folded word) (folded_small word)

pub stored_of : (w word tag phones : List ℕ) (exact : Bool) → is_of w (new_entry word tag phones exact) ≡ same (map folded word) w
unfolding is_of
stored_of w word tag phones exact = ap (λ (v : List ℕ). same v w) (stored_folds word tag phones exact)

-- an entry that a lookup wants is of the word's folded form, wanted as it is or folded
wanted_of : (exact any : Bool) (w word : List ℕ) (tag : ℕ) → map folded w ≡ map folded word
    → (e : Entry) → is_wanted exact any w tag e ≡ true → is_of (map folded word) e ≡ true
unfolding is_of
wanted_of exact any w word tag f e h = rw ((wanted_true exact any w tag e h).1, f) (same_refl (map folded word))

-- so a lookup needs no others
pub find_of_lem : (es : List Entry) (phones index dat word : List ℕ) (tag : ℕ)
    → find (those (is_of (map folded word)) es) phones index dat word tag ≡ find es phones index dat word tag
unfolding find chosen_entry
find_of_lem es phones index dat word tag =
    let mine = is_of (map folded word) in
    rw (
      first_those (is_wanted true true word tag) mine es (wanted_of true true word word tag refl),
      first_those (is_wanted false true (map folded word) tag) mine es
          (wanted_of false true (map folded word) word tag (fold_folded (map folded word) (folded_small word))),
    )

-- taking out a key, and what that leaves of a folded word
those_without : (f : Entry → Bool) (e : Entry) (es : List Entry) → those f (without e es) ≡ without e (those f es)
unfolding those without
those_without f e [] = refl
those_without f e (x ∷ xs) =
    let ih = those_without f e xs in
    cases (same_key e x)
    (λ p. cases (f x) (λ q. rw (p, q, p) ih) (λ q. rw (p, q) ih))
    (λ p. cases (f x) (λ q. rw (p, q, p) (ap (λ (l : List Entry). x ∷ l) ih)) (λ q. rw (p, q) ih))

key_of : (w : List ℕ) (e x : Entry) → same_key e x ≡ true → is_of w x ≡ is_of w e
unfolding is_of
key_of w e x h = rw (key_true e x h).0

-- a key of another folded word is not there
without_other : (w : List ℕ) (e : Entry) (es : List Entry) → is_of w e ≡ false → without e (those (is_of w) es) ≡ those (is_of w) es
unfolding those without
without_other w e [] n = refl
without_other w e (x ∷ xs) n =
    let ih = without_other w e xs n in
    cases (is_of w x)
    (λ p. let k = is_false (same_key e x) (λ h. never (is_of w x) p (key_of w e x h ∙ n)) in rw (p, k) (ap (λ (l : List Entry). x ∷ l) ih))
    (λ p. rw p ih)

-- an entry added: to those of its own folded word, and to no other
adding_of : (w : List ℕ) (e : Entry) (es : List Entry) → is_of w e ≡ true → those (is_of w) (adding e es) ≡ adding e (those (is_of w) es)
unfolding adding those
adding_of w e es h = those_append (is_of w) (without e es) (e ∷ []) ∙ rw (h, those_without (is_of w) e es)

adding_other : (w : List ℕ) (e : Entry) (es : List Entry) → is_of w e ≡ false → those (is_of w) (adding e es) ≡ those (is_of w) es
unfolding adding those
adding_other w e es n =
    those_append (is_of w) (without e es) (e ∷ []) ∙ rw n (append-nil (those (is_of w) (without e es)))
    ∙ those_without (is_of w) e es ∙ without_other w e es n

-- entries added in turn
pub adding_all_of : (w : List ℕ) (new es : List Entry) → those (is_of w) (adding_all new es) ≡ adding_all (those (is_of w) new) (those (is_of w) es)
unfolding adding_all those
adding_all_of w [] es = refl
adding_all_of w (e ∷ more) es =
    let ih = adding_all_of w more (adding e es) in
    cases (is_of w e)
    (λ p. rw p (ih ∙ ap (λ (l : List Entry). adding_all (those (is_of w) more) l) (adding_of w e es p)))
    (λ p. rw p (ih ∙ ap (λ (l : List Entry). adding_all (those (is_of w) more) l) (adding_other w e es p)))
