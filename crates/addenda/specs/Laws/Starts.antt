-- A word whose length and first byte are no row's is no row's.
-- Assumes nothing.
use Rattle.std.specs.Prelude.{ℕ, ◌≡◌, refl, Bool, true, false, List, [], ◌∷◌, eqb, length, get_or}
use Rattle.std.proofs.Common.{arith, inl, inr, sym, ap, ◌∙◌, ne_eqb, eqb-true}
use Rattle.std.specs.Char.{IsAsciiAlphanumeric}
use Rattle.std.proofs.lemmas.Bool.{eqb-false}
use Rattle.texts.specs.Choice.{when◌then◌else◌, cases, both_true, never}
use Rattle.texts.specs.Lists.{every, some, place}
use Rattle.texts.specs.Text.{bytes, ne_same}
use Rattle.texts.specs.Laws.Keys.{range_out}
use Rattle.addenda.specs.Addenda.{Addendum, addenda}
use Rattle.addenda.specs.Find.{is_meant}
use Rattle.addenda.specs.Rules.{addenda_count}

-- the first bytes of the words of a length
unfoldable pub firsts_of : ℕ → List Addendum → List ℕ
firsts_of n [] = []
firsts_of n (r ∷ rs) = when eqb (length r.word) n then get_or r.word 0 0 ∷ firsts_of n rs else firsts_of n rs

-- some row's word has this length and this first byte
unfoldable pub is_start : ℕ → ℕ → Bool
is_start n b = some (eqb b) (firsts_of n addenda)

none_meant : (word : List ℕ) (tag : ℕ) (rs : List Addendum) → some (eqb (get_or word 0 0)) (firsts_of (length word) rs) ≡ false
    → place (is_meant word tag) rs ≡ length rs
unfolding some firsts_of place is_meant
none_meant word tag [] h = refl
none_meant word tag (r ∷ rs) h =
    cases (eqb (length r.word) (length word))
    (λ e.
    cases (eqb (get_or word 0 0) (get_or r.word 0 0))
    (λ f. let z : true ≡ false = rw (e, f) at h in never true refl z)
    (λ f.
    let s = ne_same r.word word (λ q. eqb-false (get_or word 0 0) (get_or r.word 0 0) f (ap (λ (l : List ℕ). get_or l 0 0) (sym q))) in
    let t : some (eqb (get_or word 0 0)) (firsts_of (length word) rs) ≡ false = rw (e, f) at h in
    rw (s, none_meant word tag rs t)))
    (λ e.
    let s = ne_same r.word word (λ q. eqb-false (length r.word) (length word) e (ap length q)) in
    let t : some (eqb (get_or word 0 0)) (firsts_of (length word) rs) ≡ false = rw e at h in
    rw (s, none_meant word tag rs t))

pub no_start : (word : List ℕ) (tag : ℕ) → is_start (length word) (get_or word 0 0) ≡ false → place (is_meant word tag) addenda ≡ 42
unfolding is_start
no_start word tag h = none_meant word tag addenda h ∙ addenda_count

-- the words have one, two, four, five or six bytes
abbrev pub is_length : ℕ → Bool
is_length n = some (eqb n) (1 ∷ 2 ∷ 4 ∷ 5 ∷ 6 ∷ [])

no_length : (n b : ℕ) (rs : List Addendum) → every (λ (r : Addendum). is_length (length r.word)) rs ≡ true → is_length n ≡ false → some (eqb b) (firsts_of n rs) ≡ false
unfolding every some firsts_of
no_length n b [] h o = refl
no_length n b (r ∷ rs) h o =
    let t = both_true (is_length (length r.word)) (every (λ (r : Addendum). is_length (length r.word)) rs) h in
    let e : length r.word ≡ n → ⊥ = λ q. never (is_length n) (rw (sym q) t.0) o in
    rw (ne_eqb (length r.word) n e) (no_length n b rs t.1 o)

pub other_length : (n b : ℕ) → is_length n ≡ false → is_start n b ≡ false
unfolding is_start every some addenda
other_length n b o = no_length n b addenda refl o

-- the first bytes of the words longer than one
abbrev firsts : ℕ → List ℕ
firsts n =
    when eqb n 2 then bytes "'iit_"
    else when eqb n 4 then bytes "s"
    else when eqb n 5 then bytes "ye"
    else when eqb n 6 then bytes "dh"
    else []

pub start_listed : (n b : ℕ) → (n ≡ 1 → ⊥) → is_start n b ≡ some (eqb b) (firsts n)
unfolding is_start some firsts_of addenda
start_listed n b one =
    cases (eqb n 2)
    (λ e. rw (eqb-true n 2 e))
    (λ e₂. cases (eqb n 4)
    (λ e. rw (eqb-true n 4 e))
    (λ e₄. cases (eqb n 5)
    (λ e. rw (eqb-true n 5 e))
    (λ e₅. cases (eqb n 6)
    (λ e. rw (eqb-true n 6 e))
    (λ e₆. let o = other_length n b (rw (ne_eqb n 1 one, e₂, e₄, e₅, e₆)) in rw (e₂, e₄, e₅, e₆) o))))

-- none is a letter or a digit
pub sign_out : (b : ℕ) → IsAsciiAlphanumeric b → is_start 1 b ≡ false
unfolding is_start every firsts_of addenda
sign_out b (inl (inl h)) = range_out b 48 58 (firsts_of 1 addenda) refl h.0 (omega arith)
sign_out b (inl (inr h)) = range_out b 65 91 (firsts_of 1 addenda) refl h.0 (omega arith)
sign_out b (inr h) = range_out b 97 123 (firsts_of 1 addenda) refl h.0 (omega arith)
