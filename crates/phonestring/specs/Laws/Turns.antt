-- One law for each turn and end of the walks along the chain of phones: the string behind item p is a gap, the next phone's text, and the string behind that.
-- Assumes nothing.
use Rattle.std.specs.Prelude.{ℕ, ◌+◌, ◌-◌, ◌≤◌, ◌<◌, ◌≡◌, refl, ◌≢◌, eqb, length, take, set}
use Rattle.std.proofs.Common.{arith, sym, ◌∙◌, length-take, length-drop, length-append, eq-eqb, ne_eqb}
use Rattle.std.proofs.Math.Path.{ap}
use mathlib.Core.List.{List, [], ◌∷◌, ◌++◌, map}
use Rattle.std.proofs.Math.Seq.{paste, paste-zero, take-length, take-append_seam}
use Rattle.texts.specs.Choice.{when◌then◌else◌, cases}
use Rattle.records.specs.Records.{record_at, paste_more, paste_turn}
use Rattle.records.specs.Chain.{chain, chain_turn, chain_stop, chain_end}
use Rattle.items_spec.specs.Item.{item_of}
use Rattle.utterance_spec.specs.Tree.{follow, text_at}
use Rattle.utterance_spec.specs.Sheet.{at, used}
use Rattle.phonestring.specs.PhoneString.{phones, led, spaced, string}

-- a blank, unless item p is item 0, behind which the first phone stands
unfoldable pub gap : ℕ → List ℕ
gap p = when eqb p 0 then [] else 32 ∷ []

-- the string of the phones behind item p, at most n, with its gap
unfoldable pub behind : ℕ → List (List ℕ) → List ℕ
behind p ps = when eqb p 0 then spaced ps else led ps

unfoldable pub rest : List ℕ → ℕ → ℕ → List ℕ
rest b n p = behind p (map (text_at (at b)) (chain (follow (at b)) n p))

pub rest_all : (b : List ℕ) → string b ≡ rest b (used b) 0
unfolding rest behind phones
rest_all b = refl

behind_nil : (p : ℕ) → behind p [] ≡ []
unfolding behind spaced led
behind_nil p = cases (eqb p 0) (λ e. rw e) (λ e. rw e)

behind_cons : (p q : ℕ) (t : List ℕ) (ps : List (List ℕ)) → q ≢ 0 → behind p (t ∷ ps) ≡ (gap p ++ t) ++ behind q ps
unfolding behind gap spaced led
behind_cons p q t ps n = rw (ne_eqb q 0 n) (cases (eqb p 0) (λ e. rw e) (λ e. rw e))

module _ (b : List ℕ) where
  pub rest_turn : (left p q : ℕ) → 0 < left → q ≡ (at b p).follow → q ≢ 0 → rest b left p ≡ (gap p ++ (at b q).text) ++ rest b (left - 1) q
  unfolding rest follow
  rest_turn left p q h e n =
      ap (λ (l : List ℕ). behind p (map (text_at (at b)) l)) (chain_turn (follow (at b)) left p q h e n)
      ∙ behind_cons p q (at b q).text (map (text_at (at b)) (chain (follow (at b)) (left - 1) q)) n

  pub rest_stop : (left p q : ℕ) → q ≡ (at b p).follow → q ≡ 0 → rest b left p ≡ []
  unfolding rest follow
  rest_stop left p q e z = ap (λ (l : List ℕ). behind p (map (text_at (at b)) l)) (chain_stop (follow (at b)) left p (sym e ∙ z)) ∙ behind_nil p

  pub rest_end : (left p : ℕ) → left ≤ 0 → rest b left p ≡ []
  unfolding rest
  rest_end left p h = ap (λ (l : List ℕ). behind p (map (text_at (at b)) l)) (chain_end (follow (at b)) left p h) ∙ behind_nil p

  -- a text has at most 47 bytes
  pub text_short : (i : ℕ) → length (at b i).text ≤ 47
  unfolding at item_of record_at
  text_short i = simp (length-take, length-drop) (omega arith)

-- a string pasted into the bytes from k on, in two parts
pub paste_parts : (d s t r : List ℕ) (k : ℕ) → r ≡ s ++ t → k + length r ≤ length d
    → paste (paste d k s (length s)) (k + length s) t (length t) ≡ paste d k r (length r)
paste_parts d s t r k e h =
    let n : length r ≡ length s + length t = rw (e, length-append s t) in
    let f : take (length s) r ≡ take (length s) s = rw (e, take-append_seam s t, take-length s) in
    let g : take (length s + length t) r ≡ take (length s) r ++ take (length t) t = rw (← n, take-length r, f, take-length s, take-length t) e in
    rw (← f, n) (paste_more d r t k (length s) (length t) (omega arith) (omega arith) g)

-- nothing left to paste
pub paste_none : (d r : List ℕ) (k : ℕ) → r ≡ [] → paste d k r (length r) ≡ d
paste_none d r k e = rw e (sym (paste-zero d k []))

-- the gap, and its length
pub gap_first : (p : ℕ) → p ≡ 0 → gap p ≡ []
unfolding gap
gap_first p z = rw (eq-eqb p 0 z)

pub gap_later : (p : ℕ) → p ≢ 0 → gap p ≡ 32 ∷ []
unfolding gap
gap_later p n = rw (ne_eqb p 0 n)

pub gap_short : (p : ℕ) → length (gap p) ≤ 1
unfolding gap
gap_short p = cases (eqb p 0) (λ e. rw e (omega arith)) (λ e. rw e (omega arith))

pub length_first : (p : ℕ) (t : List ℕ) → p ≡ 0 → length (gap p ++ t) ≡ length t
length_first p t z = rw (gap_first p z)

pub length_later : (p : ℕ) (t : List ℕ) → p ≢ 0 → length (gap p ++ t) ≡ 1 + length t
length_later p t n = rw (gap_later p n) (omega arith)

-- one byte, and a phone's text with its gap, as the code writes them
paste_byte : (d : List ℕ) (k v : ℕ) → k < length d → set d k v ≡ paste d k (v ∷ []) 1
paste_byte d k v h =
    let e : k + 0 ≡ k = omega arith in
    let t = paste_turn d (v ∷ []) k 0 v (omega arith) (omega arith) refl in
    rw (← paste-zero d k (v ∷ []), e) at t

pub paste_first : (d t : List ℕ) (k p : ℕ) → p ≡ 0 → paste d k t (length t) ≡ paste d k (gap p ++ t) (length (gap p ++ t))
paste_first d t k p z = rw (gap_first p z)

pub paste_later : (d t : List ℕ) (k p : ℕ) → p ≢ 0 → k + length (gap p ++ t) ≤ length d
    → paste (set d k 32) (k + 1) t (length t) ≡ paste d k (gap p ++ t) (length (gap p ++ t))
paste_later d t k p n h =
    let l : k + length (32 ∷ t) ≤ length d = rw (gap_later p n) at h in
    rw (gap_later p n, paste_byte d k 32 (omega arith)) (paste_parts d (32 ∷ []) t (32 ∷ t) k refl l)

-- one turn of the count, and of the writing
module _ (b : List ℕ) (left p q : ℕ) (t : List ℕ) (some : 0 < left) (is : q ≡ (at b p).follow) (real : q ≢ 0) (text : t ≡ (at b q).text) where
  turn : rest b left p ≡ (gap p ++ t) ++ rest b (left - 1) q
  turn = rw text (rest_turn b left p q some is real)

  pub count_turn : length (rest b left p) ≡ length (gap p ++ t) + length (rest b (left - 1) q)
  count_turn = rw (turn, length-append (gap p ++ t) (rest b (left - 1) q))

  pub write_turn : (d e : List ℕ) (k m : ℕ) → k + length (rest b left p) ≤ length d → m ≡ k + length (gap p ++ t) → e ≡ paste d k (gap p ++ t) (length (gap p ++ t))
      → paste d k (rest b left p) (length (rest b left p)) ≡ paste e m (rest b (left - 1) q) (length (rest b (left - 1) q))
  write_turn d e k m h hm he = rw (he, hm) (sym (paste_parts d (gap p ++ t) (rest b (left - 1) q) (rest b left p) k turn h))
