-- A walk by a place in its word, and a byte that is its own symbol: laws that nothing cites since the code goes over the letters themselves. Assumes nothing.
use Rattle.std.specs.Prelude.{ℕ, suc, ◌+◌, ◌-◌, ◌≤◌, ◌<◌, ◌≡◌, false, List, [], ◌∷◌, ◌++◌, reverse, length, get_or, take, drop}
use Rattle.std.proofs.Common.{add-one, arith, sym, ap, ◌∙◌, drop_of_length-le, drop-cons, take-suc}
use Rattle.std.proofs.lemmas.List.{reverse-append}
use borrow.Author.Tests.{ne_eqb}
use Rattle.texts.specs.Lists.{some}
use Rattle.texts.specs.Text.{folded, is}
use Rattle.language.specs.Machine.{symbol, moved, on_moved, accepts}

-- one letter more of a walk, forwards and backwards
pub accepts_forwards : (t : List ℕ) (state : ℕ) (word : List ℕ) (i : ℕ) → i < length word
    → accepts t state (drop i word) ≡ on_moved (λ (next : ℕ). accepts t next (drop (i + 1) word)) (moved t state (symbol (folded (get_or word i 0))))
unfolding accepts
accepts_forwards t state word i h = rw (drop-cons word i 0 h, add-one)

pub accepts_backwards : (t : List ℕ) (state : ℕ) (word : List ℕ) (left : ℕ) → 0 < left → left ≤ length word
    → accepts t state (reverse (take left word))
    ≡ on_moved (λ (next : ℕ). accepts t next (reverse (take (left - 1) word))) (moved t state (symbol (folded (get_or word (left - 1) 0))))
unfolding accepts
accepts_backwards t state word left pos h =
    let n : left ≡ suc (left - 1) = omega arith in
    let e : take left word ≡ take (left - 1) word ++ (get_or word (left - 1) 0 ∷ []) = ap (λ (k : ℕ). take k word) n ∙ take-suc word (left - 1) 0 (omega arith) in
    rw (e, reverse-append)

pub accepts_end : (t : List ℕ) (state : ℕ) (word : List ℕ) (i : ℕ) → length word ≤ i → accepts t state (drop i word) ≡ false
unfolding accepts
accepts_end t state word i h = rw (drop_of_length-le word h)

pub accepts_none : (t : List ℕ) (state : ℕ) (word : List ℕ) (left : ℕ) → left ≤ 0 → accepts t state (reverse (take left word)) ≡ false
unfolding accepts
accepts_none t state word left h = let e : left ≡ 0 = omega arith in rw e

-- any other byte is its own symbol
pub symbol_other : (b : ℕ) → (b ≡ 110 → ⊥) → (b ≡ 109 → ⊥) → (b ≡ 97 → ⊥) → (b ≡ 101 → ⊥) → (b ≡ 105 → ⊥) → (b ≡ 111 → ⊥) → (b ≡ 117 → ⊥) → (b ≡ 121 → ⊥)
    → b ≡ symbol b
unfolding symbol some is
symbol_other b n m a e i o u y =
    rw (
      ne_eqb 110 b (λ q. n (sym q)),
      ne_eqb 109 b (λ q. m (sym q)),
      ne_eqb 97 b (λ q. a (sym q)),
      ne_eqb 101 b (λ q. e (sym q)),
      ne_eqb 105 b (λ q. i (sym q)),
      ne_eqb 111 b (λ q. o (sym q)),
      ne_eqb 117 b (λ q. u (sym q)),
      ne_eqb 121 b (λ q. y (sym q)),
    )
