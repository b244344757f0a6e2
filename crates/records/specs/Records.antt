-- Records of a fixed width w in a list of bytes: the whole ones in order, one of them, and one replaced. A remainder is no record.
-- Assumes nothing.
use Rattle.std.specs.Prelude.{ℕ, zero, suc, ◌+◌, ◌-◌, ◌*◌, ◌%◌, ◌/◌, ◌<◌, ◌≤◌, ◌≡◌, ◌≢◌, length, get_or, set}
use Rattle.std.proofs.Common.{le_of_suc-le-suc, not-suc-le-zero, le-div_iff_mul-le, mul-le-mul_left, zero-add, add-one, sym, ◌∙◌, subst, length-set, length-take, length-drop, length-append, drop_of_length-le, drop-drop, length-take-le, get_or-take, get_or-drop, get_or-append-add, ext_get_or, take-suc-set}
use Rattle.std.proofs.Math.Nat.{sub-zero, suc-sub-suc, add-mul-div_right, mul-add-div, div-eq_of_lt}
use native.Mathlib.Omega.{arith}
use Rattle.std.proofs.Math.Decide.{dec_le}
use Rattle.std.proofs.Math.Path.{refl, ap}
use mathlib.Core.List.{List, [], ◌∷◌, ◌++◌, append_assoc, append-nil}
use Rattle.std.proofs.Math.ListN.{take, drop, get_or-append}
use Rattle.std.proofs.Math.Seq.{paste, paste-suc, length-paste, length_paste_head, get_or-set_other, take_at, drop_at, take_all, take-length, take-set-lt, drop-set-add}
use Rattle.std.proofs.lemmas.List.Edits.{take-paste, drop-paste}
use Rattle.records.specs.Fields.{u16_at, put16}

-- record i
unfoldable pub record_at : ℕ → List ℕ → ℕ → List ℕ
record_at w b i = take w (drop (w * i) b)

-- record i replaced by r
unfoldable pub put_record : ℕ → List ℕ → ℕ → List ℕ → List ℕ
put_record w b i r = paste b (w * i) r w

-- the first n records
unfoldable pub first_records : ℕ → ℕ → List ℕ → List (List ℕ)
first_records w zero b = []
first_records w (suc n) b = take w b ∷ first_records w n (drop w b)

-- the whole records in order
unfoldable pub records : ℕ → List ℕ → List (List ℕ)
records w b = first_records w (length b / w) b

-- a record inside the bytes is as long as it is wide
pub length_record_at : (w : ℕ) (b : List ℕ) (n : ℕ) → w * n + w ≤ length b → length (record_at w b n) ≡ w
unfolding record_at
length_record_at w b n h = length-take-le w (drop (w * n) b) (rw length-drop (omega arith))

length_first : (w n : ℕ) (b : List ℕ) → length (first_records w n b) ≡ n
unfolding first_records
length_first w zero b = refl
length_first w (suc n) b = ap suc (length_first w n (drop w b))

pub length_records : (w : ℕ) (b : List ℕ) → length (records w b) ≡ length b / w
unfolding records
length_records w b = length_first w (length b / w) b

drop_first : (w k n : ℕ) (b : List ℕ) → k ≤ n → drop k (first_records w n b) ≡ first_records w (n - k) (drop (w * k) b)
unfolding first_records
drop_first w zero n b h = let e : w * 0 ≡ 0 = omega arith in rw (sub-zero, e)
drop_first w (suc k) zero b h = absurd (not-suc-le-zero h)
drop_first w (suc k) (suc n) b h =
    let e : w + w * k ≡ w * suc k = omega arith in
    drop_first w k n (drop w b) (le_of_suc-le-suc h) ∙ rw (drop-drop, e, suc-sub-suc)

get_d_first : (w k n : ℕ) (b : List ℕ) → k < n → get_or (first_records w n b) k [] ≡ record_at w b k
unfolding first_records record_at
get_d_first w k zero b h = absurd (not-suc-le-zero h)
get_d_first w zero (suc n) b h = let e : w * 0 ≡ 0 = omega arith in rw e
get_d_first w (suc k) (suc n) b h =
    let e : w + w * k ≡ w * suc k = omega arith in
    get_d_first w k n (drop w b) (le_of_suc-le-suc h) ∙ rw (drop-drop, e)

-- of n bytes, k records of w dropped leave k records fewer
fewer : (w k n : ℕ) → 0 < w → k ≤ n / w → (n - w * k) / w ≡ n / w - k
fewer w k n pos h =
    let g : k * w ≤ n = (le-div_iff_mul-le pos).0 h in
    let e : n ≡ n - w * k + k * w = omega arith in
    let d = add-mul-div_right (n - w * k) k pos in
    let s : n / w ≡ (n - w * k) / w + k = ap (λ (m : ℕ). m / w) e ∙ d in
    omega arith

-- record k is the one at its place
pub record_of_lem : (w k : ℕ) (b : List ℕ) → k < length b / w → get_or (records w b) k [] ≡ record_at w b k
unfolding records
record_of_lem w k b h = get_d_first w k (length b / w) b h

-- the records from k on are those of the bytes from w * k on
pub records_from : (w k : ℕ) (b : List ℕ) → 0 < w → k ≤ length b / w → records w (drop (w * k) b) ≡ drop k (records w b)
unfolding records
records_from w k b pos h =
    let e : length (drop (w * k) b) / w ≡ length b / w - k = rw length-drop (fewer w k (length b) pos h) in
    ap (λ (m : ℕ). first_records w m (drop (w * k) b)) e ∙ sym (drop_first w k (length b / w) b h)

-- a part of a slice as the code cuts it out: one record, and all from a byte on
pub part_record : (w i : ℕ) (b : List ℕ) → i < length b / w → take (w * i + w - w * i) (drop (w * i) b) ≡ get_or (records w b) i []
unfolding record_at
part_record w i b h = let e : w * i + w - w * i ≡ w = omega arith in rw (record_of_lem w i b h, e)

pub part_from : (k : ℕ) (b : List ℕ) → take (length b - k) (drop k b) ≡ drop k b
part_from k b = take_all (length b - k) (drop k b) (rw length-drop (omega arith))

-- a paste at the front, and what it put there
pub take_front : (d s : List ℕ) (n : ℕ) → length s ≡ n → take n (paste d 0 s n) ≡ s
take_front d s n l = rw (take_all n s (omega arith)) (take_at s (drop (0 + n) d) n l)

pub paste_front : (d s : List ℕ) → paste d 0 s (length s) ≡ s ++ drop (length s) d
paste_front d s = rw (take-length s, zero-add)

-- a copy as long as the whole leaves nothing of it
pub paste_whole : (d s : List ℕ) → length d ≡ length s → paste d 0 s (length s) ≡ s
paste_whole d s h = let l : length d ≤ length s = omega arith in paste_front d s ∙ rw (drop_of_length-le d l) (append-nil s)

-- one more byte of a paste, as a loop writes it
pub paste_turn : (d s : List ℕ) (k j v : ℕ) → k + j < length d → j < length s → get_or s j 0 ≡ v → set (paste d k s j) (k + j) v ≡ paste d k s (j + 1)
paste_turn d s k j v hd hs e = rw (← e, add-one) (paste-suc d k s j 0 hd hs)

-- n bytes of t pasted behind m bytes of s are the first m + n bytes of s, if s goes on with them
pub paste_more : (d s t : List ℕ) (a m n : ℕ) → a + m + n ≤ length d → m ≤ length s → take (m + n) s ≡ take m s ++ take n t
    → paste (paste d a s m) (a + m) t n ≡ paste d a s (m + n)
paste_more d s t a m n hd hs e =
    let ha : a ≤ length d = omega arith in
    let k : a + m + n ≡ a + (m + n) = omega arith in
    rw (take-paste d a s m ha hs, ← drop-drop n (a + m) (paste d a s m), drop-paste d a s m ha hs, drop-drop, append_assoc (take a d) (take m s) (take n t), ← e, k)

-- a record written from its front on: one byte more, and one part more
pub front_byte : (b p : List ℕ) (k v : ℕ) → k < length b → take k b ≡ p → take (k + 1) (set b k v) ≡ p ++ (v ∷ [])
front_byte b p k v h e = rw (add-one, take-suc-set b k v h, e)

pub front_part : (b p s : List ℕ) (k n : ℕ) → k + n ≤ length b → length s ≡ n → take k b ≡ p → take (k + n) (paste b k s n) ≡ p ++ s
front_part b p s k n h l e =
    let hk : k ≤ length b = omega arith in
    let hn : n ≤ length s = omega arith in
    let hs : length s ≤ n = omega arith in
    rw (take-paste b k s n hk hn, e, take_all n s hs)

pub front_u16 : (b : List ℕ) (v : ℕ) → 1 < length b → take 2 (put16 b 0 v) ≡ v % 256 ∷ v / 256 ∷ []
unfolding put16
front_u16 b v h =
    let f = front_byte b [] 0 (v % 256) (omega arith) refl in
    front_byte (set b 0 (v % 256)) (v % 256 ∷ []) 1 (v / 256) (simp length-set h) f

-- what a paste leaves, byte by byte
paste_before : (d s : List ℕ) (at n k : ℕ) → at ≤ length d → k < at → get_or (paste d at s n) k 0 ≡ get_or d k 0
paste_before d s at n k hd h =
    get_or-append (take at d ++ take n s) (drop (at + n) d) 0 k (simp (length-append, length-take-le at d hd) (omega arith))
    ∙ get_or-append (take at d) (take n s) 0 k (rw (length-take-le at d hd) h)
    ∙ get_or-take at d k 0 h

paste_after : (d s : List ℕ) (at n m : ℕ) → at ≤ length d → n ≤ length s → get_or (paste d at s n) (at + n + m) 0 ≡ get_or d (at + n + m) 0
paste_after d s at n m hd hs =
    subst (λ (q : ℕ). get_or ((take at d ++ take n s) ++ drop (at + n) d) (q + m) 0 ≡ get_or (drop (at + n) d) m 0)
    (length_paste_head d at s n hd hs) (get_or-append-add (take at d ++ take n s) (drop (at + n) d) m 0)
    ∙ get_or-drop (at + n) d m 0

-- a byte outside what was pasted is as it was
pub paste_other : (d s : List ℕ) (at n k : ℕ) → at + n ≤ length d → n ≤ length s → (at ≤ k → at + n ≤ k) → get_or (paste d at s n) k 0 ≡ get_or d k 0
paste_other d s at n k hd hs out = go (dec_le at k)
  where
    go : Dec (at ≤ k) → get_or (paste d at s n) k 0 ≡ get_or d k 0
    go (no f) = paste_before d s at n k (omega arith) (omega arith)
    go (yes p) =
        let q : at + n ≤ k = out p in
        let e : at + n + (k - (at + n)) ≡ k = omega arith in
        subst (λ (z : ℕ). get_or (paste d at s n) z 0 ≡ get_or d z 0) e (paste_after d s at n (k - (at + n)) (omega arith) hs)

-- a byte, and a u16, of a record
pub byte_of : (w : ℕ) (b : List ℕ) (i o : ℕ) → o < w → get_or (record_at w b i) o 0 ≡ get_or b (w * i + o) 0
unfolding record_at
byte_of w b i o h = get_or-take w (drop (w * i) b) o 0 h ∙ get_or-drop (w * i) b o 0

pub u16_of : (w : ℕ) (b : List ℕ) (i o : ℕ) → o + 1 < w → u16_at (record_at w b i) o ≡ u16_at b (w * i + o)
unfolding u16_at
u16_of w b i o h =
    let e : w * i + (o + 1) ≡ w * i + o + 1 = omega arith in
    omega (arith, byte_of w b i o (omega arith), byte_of w b i (o + 1) (omega arith), ap (λ (k : ℕ). get_or b k 0) e)

-- lists as long have the same record where they agree on its bytes
pub same_record : (w : ℕ) (b c : List ℕ) (i : ℕ) → length c ≡ length b → ((o : ℕ) → o < w → get_or c (w * i + o) 0 ≡ get_or b (w * i + o) 0) → record_at w c i ≡ record_at w b i
unfolding record_at
same_record w b c i l h =
    ext_get_or 0 (take w (drop (w * i) c)) (take w (drop (w * i) b))
    (simp (length-take, length-drop, l))
    (λ o lt. let k : o < w = omega (arith, simp length-take at lt) in
    (get_or-take w (drop (w * i) c) o 0 k ∙ get_or-drop (w * i) c o 0) ∙ h o k ∙ sym (get_or-take w (drop (w * i) b) o 0 k ∙ get_or-drop (w * i) b o 0))

-- places of two records do not meet
apart : (w i j o p : ℕ) → o < w → p < w → j ≢ i → w * j + o ≢ w * i + p
apart w i j o p ho hp ne e =
    let pos : 0 < w = omega arith in
    let d : j + o / w ≡ i + p / w = sym (mul-add-div pos j o) ∙ ap (λ (n : ℕ). n / w) e ∙ mul-add-div pos i p in
    ne (omega (arith, div-eq_of_lt ho, div-eq_of_lt hp))

-- what begins at a record's end or behind it
beyond : (w i j o : ℕ) → o < w → j ≢ i → w * i ≤ w * j + o → w * i + w ≤ w * j + o
beyond w i j o ho ne h = go (dec_le (suc j) i)
  where
    go : Dec (suc j ≤ i) → w * i + w ≤ w * j + o
    go (yes q) = let z = mul-le-mul_left w q in absurd (omega arith)
    go (no f) = let q : suc i ≤ j = omega arith in let z = mul-le-mul_left w q in omega arith

-- record i replaced: it is r, and every other is as it was
module _ (w : ℕ) (b : List ℕ) (i : ℕ) (r : List ℕ) (fits : w * i + w ≤ length b) (long : length r ≡ w) where
  pub length_put_record : length (put_record w b i r) ≡ length b
  unfolding put_record
  length_put_record = length-paste b (w * i) r w fits (omega arith)

  pub put_record_same : record_at w (put_record w b i r) i ≡ r
  unfolding put_record record_at
  put_record_same =
      ap (λ (l : List ℕ). take w (drop (w * i) l)) (append_assoc (take (w * i) b) (take w r) (drop (w * i + w) b))
      ∙ ap (λ (l : List ℕ). take w l) (drop_at (take (w * i) b) (take w r ++ drop (w * i + w) b) (w * i) (length-take-le (w * i) b (omega arith)))
      ∙ take_at (take w r) (drop (w * i + w) b) w (length-take-le w r (omega arith))
      ∙ take_all w r (omega arith)

  -- the bytes from it on
  pub drop_put_record : drop (w * i) (put_record w b i r) ≡ r ++ drop (w * i + w) b
  unfolding put_record
  drop_put_record =
      ap (λ (l : List ℕ). drop (w * i) l) (append_assoc (take (w * i) b) (take w r) (drop (w * i + w) b))
      ∙ drop_at (take (w * i) b) (take w r ++ drop (w * i + w) b) (w * i) (length-take-le (w * i) b (omega arith))
      ∙ ap (λ (l : List ℕ). l ++ drop (w * i + w) b) (take_all w r (omega arith))

  pub put_record_other : (j : ℕ) → j ≢ i → record_at w (put_record w b i r) j ≡ record_at w b j
  unfolding put_record
  put_record_other j ne = same_record w b (put_record w b i r) j length_put_record (λ o h. paste_other b r (w * i) w (w * j + o) fits (omega arith) (beyond w i j o h ne))

-- a u16 put into record i: the record has it, and every other is as it was
module _ (w : ℕ) (b : List ℕ) (i o v : ℕ) (inside : o + 1 < w) where
  pub put16_same : record_at w (put16 b (w * i + o) v) i ≡ put16 (record_at w b i) o v
  unfolding put16 record_at
  put16_same =
      let e : w * i + o + 1 ≡ w * i + (o + 1) = omega arith in
      let h : o < w = omega arith in
      rw (e, drop-set-add (w * i), drop-set-add (w * i) b o, take-set-lt w, take-set-lt w (drop (w * i) b) o) refl

  pub put16_other : (j : ℕ) → j ≢ i → record_at w (put16 b (w * i + o) v) j ≡ record_at w b j
  unfolding put16
  put16_other j ne = same_record w b (put16 b (w * i + o) v) j (simp length-set) (λ k h.
      get_or-set_other (set b (w * i + o) (v % 256)) (w * i + o + 1) (w * j + k) (v / 256) 0 (λ e. apart w i j k (o + 1) h inside ne (omega arith))
      ∙ get_or-set_other b (w * i + o) (w * j + k) (v % 256) 0 (apart w i j k o h (omega arith) ne))
