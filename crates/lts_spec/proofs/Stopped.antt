-- Theorems about `specs/Stopped.antt`: 02, S-5: what the place is where a word's letters stop. No "#" stands from there on, one stands just before it unless it is 0, and only the bytes from there on give phones.
-- Assumes nothing.
use Prim.Native.Nat.{ℕ, zero, suc, ◌+◌, ◌-◌, ◌≤◌, ◌<◌}
use Rattle.std.proofs.Common.{arith, ◌∙◌, sym, get_or-append-add}
use Rattle.std.specs.Prelude.{◌≡◌, false, ◌&&◌, leb, length, get_or, take}
use Rattle.std.proofs.Math.Path.{refl, ap}
use mathlib.Core.List.{List, ◌++◌, map}
use Rattle.std.proofs.lemmas.List.{length-map}
use Rattle.std.proofs.Math.ListN.{get_or-append}
use Rattle.std.proofs.Math.Seq.{take-length}
use borrow.Author.Tests.{eqb-true, ne_eqb, leb-true, le-leb, lt-leb}
use Rattle.texts.specs.Choice.{cases, both_true}
use Rattle.texts.specs.Lists.{behind_last, get_d_map}
use Rattle.texts.specs.Text.{bytes, folded, is}
use Rattle.lts_spec.proofs.Laws.Last.{behind_turn, behind_stop, behind_take, behind_last_lem}
use Rattle.lts_spec.specs.Letters.{padded, up_to, letters, stopped}
use Rattle.lts_spec.specs.Stopped.{letters_from}

pub stopped_free : (word : List ℕ) (k : ℕ) → stopped word ≤ k → k < length word → is 35 (get_or word k 0) ≡ false
unfolding stopped
stopped_free word k a b = (behind_last_lem (is 35) word 0).free k (omega (arith, a)) b

pub stopped_behind : (word : List ℕ) → 0 < stopped word → get_or word (stopped word - 1) 0 ≡ 35
unfolding stopped is
stopped_behind word h = eqb-true (get_or word (stopped word - 1) 0) 35 ((behind_last_lem (is 35) word 0).before h)

-- folding makes and takes no "#"
hash_folded : (b : ℕ) → is 35 (folded b) ≡ is 35 b
unfolding is folded
hash_folded b =
    cases (leb 65 b && leb b 90)
    (λ e. let c = leb-true 65 b (both_true (leb 65 b) (leb b 90) e).0 in rw (e, ne_eqb b 35 (omega arith), ne_eqb (b + 32) 35 (omega arith)))
    (λ e. rw e)

-- the bytes of a word stand from place 4 on in its padded form
padded_at : (word : List ℕ) (k : ℕ) → k < length word → get_or (padded word) (4 + k) 0 ≡ folded (get_or word k 0)
unfolding padded
padded_at word k h =
    get_or-append-add (bytes "000#") (map folded word ++ bytes "#000") k 0
    ∙ get_or-append (map folded word) (bytes "#000") 0 k (omega (arith, length-map word folded))
    ∙ get_d_map folded word k 0 0 h

pub hash_at_lem : (word : List ℕ) (n : ℕ) → n < length word → is 35 (get_or (padded word) (n + 4) 0) ≡ is 35 (get_or word n 0)
hash_at_lem word n h = let e : n + 4 ≡ 4 + n = omega arith in rw (e, padded_at word n h) (hash_folded (get_or word n 0))

module _ (phones index model : List ℕ) where
  up_to_from : (word : List ℕ) (n : ℕ) → n ≤ length word → up_to phones index model (padded word) n ≡ letters_from phones index model (behind_last (is 35) (take n word)) (padded word) n
  unfolding up_to letters_from
  up_to_from word zero h = refl
  up_to_from word (suc n) h =
      let ih = up_to_from word n (omega arith) in
      let w = (behind_take (is 35) word 0 n (omega arith)).within in
      cases (is 35 (get_or word n 0))
      (λ e. rw (hash_at_lem word n h, e, behind_stop (is 35) word 0 n h e, lt-leb (suc n) n (omega arith)))
      (λ e.
      let to : letters_from phones index model (behind_last (is 35) (take n word)) (padded word) (suc n) ≡ letters_from phones index model (behind_last (is 35) (take (suc n) word)) (padded word) (suc n) =
      ap (λ (m : ℕ). letters_from phones index model m (padded word) (suc n)) (sym (behind_turn (is 35) word 0 n h e)) in
      rw (hash_at_lem word n h, e) (rw (le-leb (behind_last (is 35) (take n word)) n w, ← ih) at to))

  pub letters_from_lem : (word : List ℕ) → letters phones index model word ≡ letters_from phones index model (stopped word) (padded word) (length word)
  unfolding letters stopped
  letters_from_lem word =
      up_to_from word (length word) (omega arith)
      ∙ ap (λ (s : List ℕ). letters_from phones index model (behind_last (is 35) s) (padded word) (length word)) (take-length word)
