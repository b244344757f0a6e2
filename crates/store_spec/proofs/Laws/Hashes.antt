-- Theorems about `specs/Laws/Hashes.antt`: A number for each key, by which most keys are told apart: entries of one key have one hash.
-- Assumes nothing.
use Rattle.std.specs.Prelude.{ℕ, suc, ◌+◌, ◌-◌, ◌≤◌, ◌<◌, ◌≡◌, ◌≢◌, Bool, ◌||◌, List, [], ◌∷◌, ◌++◌, map, eqb, length, get_or, take, drop, set}
use Rattle.std.proofs.Math.Numerals.{add-one}
use Rattle.std.proofs.Common.{arith, sym, ap, ◌∙◌, append_assoc, append-nil, length-drop, drop_of_length-le, drop-cons, drop-drop, get_or-drop}
use Rattle.std.proofs.Math.Path.{refl}
use Rattle.std.proofs.Math.Bool.{true, false}
use borrow.Author.Tests.{eq-eqb, ne_eqb}
use Rattle.texts.specs.Choice.{is_false, never}
use Rattle.texts.specs.Lists.{some}
use Rattle.texts.specs.Text.{is}
use Rattle.records.specs.Records.{front_byte}
use Rattle.records.specs.Chain.{chain, chain_turn}
use Rattle.slots_spec.specs.Slot.{Entry}
use Rattle.store_spec.specs.Store.{entry_at, same_key}
use Rattle.store_spec.proofs.Laws.Keys.{key_true, either_false}
use Rattle.store_spec.specs.Laws.Hashes.{hash_of, hash_at, some_left}

same_hash : (a b : Entry) → same_key a b ≡ true → hash_of b ≡ hash_of a
unfolding hash_of
same_hash a b h = let k = key_true a b h in rw (k.0, k.1)

-- a key whose hash stands nowhere in a list stands nowhere in it
pub hash_absent : (b : List ℕ) (n : ℕ) (l : List ℕ) → some (is (hash_at b n)) (map (hash_at b) l) ≡ false → some (same_key (entry_at b n)) (map (entry_at b) l) ≡ false
unfolding some is hash_at
hash_absent b n [] h = refl
hash_absent b n (x ∷ xs) h =
    let s = either_false (eqb (hash_at b x) (hash_at b n)) (some (is (hash_at b n)) (map (hash_at b) xs)) h in
    let k : same_key (entry_at b n) (entry_at b x) ≡ false =
    is_false (same_key (entry_at b n) (entry_at b x)) (λ e. never (eqb (hash_at b x) (hash_at b n)) (eq-eqb (hash_at b x) (hash_at b n) (same_hash (entry_at b n) (entry_at b x) e)) s.0) in
    rw (k, hash_absent b n xs s.1)

module _ (m : ℕ) (l : List ℕ) (found : Bool) (i : ℕ) where
  pub some_met : i < length l → get_or l i 0 ≡ m → some_left m l found i ≡ some_left m l true (i + 1)
  unfolding some_left some is
  some_met h e = go found (rw (drop-cons l i 0 h, eq-eqb (get_or l i 0) m e))
    where
      go : (t : Bool) → some (is m) (drop i l) ≡ true → (t || some (is m) (drop i l)) ≡ true
      go true k = refl
      go false k = k

  pub some_passed : i < length l → get_or l i 0 ≢ m → some_left m l found i ≡ some_left m l found (i + 1)
  unfolding some_left some is
  some_passed h e = rw (drop-cons l i 0 h, add-one, ne_eqb (get_or l i 0) m e)

  pub some_left_lem : length l ≤ i → some_left m l found i ≡ found
  unfolding some_left some
  some_left_lem h = rw (drop_of_length-le l h) (go found)
    where
      go : (t : Bool) → (t || false) ≡ t
      go true = refl
      go false = refl

-- hashes along a chain: read one by one, and written one by one
module _ (f g : ℕ → ℕ) (hashes : List ℕ) where
  pub hashes_turn : (i left p q : ℕ) → drop i hashes ≡ map g (chain f left p) → 0 < left → q ≡ f p → q ≢ 0
      → (i < length hashes) × (get_or hashes i 0 ≡ g q) × (drop (i + 1) hashes ≡ map g (chain f (left - 1) q))
  hashes_turn i left p q e h eq n =
      let t : drop i hashes ≡ g q ∷ map g (chain f (left - 1) q) = e ∙ ap (λ (l : List ℕ). map g l) (chain_turn f left p q h eq n) in
      let l : length hashes - i ≡ suc (length (map g (chain f (left - 1) q))) = sym (length-drop i hashes) ∙ ap (λ (l : List ℕ). length l) t in
      let z : i + 0 ≡ i = omega arith in (
        omega arith,
        ap (λ (k : ℕ). get_or hashes k 0) (sym z) ∙ sym (get_or-drop i hashes 0 0) ∙ ap (λ (l : List ℕ). get_or l 0 0) t,
        sym (drop-drop 1 i hashes) ∙ ap (λ (l : List ℕ). drop 1 l) t,
      )

  pub hashed_turn : (all : List ℕ) (j left p q v : ℕ) → take j hashes ++ map g (chain f left p) ≡ all → j < length hashes → 0 < left → q ≡ f p → q ≢ 0 → v ≡ g q
      → take (j + 1) (set hashes j v) ++ map g (chain f (left - 1) q) ≡ all
  hashed_turn all j left p q v e l h eq n ev =
      let t : map g (chain f left p) ≡ g q ∷ map g (chain f (left - 1) q) = ap (λ (l : List ℕ). map g l) (chain_turn f left p q h eq n) in
      rw (front_byte hashes (take j hashes) j v l refl, append_assoc (take j hashes) (v ∷ []) (map g (chain f (left - 1) q)), ev, ← t) e

  pub hashed_end : (all : List ℕ) (j left p : ℕ) → take j hashes ++ map g (chain f left p) ≡ all → chain f left p ≡ [] → take j hashes ≡ all
  hashed_end all j left p e z = sym (append-nil (take j hashes)) ∙ ap (λ (l : List ℕ). take j hashes ++ map g l) (sym z) ∙ e
