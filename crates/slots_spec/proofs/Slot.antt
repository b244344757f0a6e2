-- Theorems about `specs/Slot.antt`: 01, Store and sheet, and 02, S-8: an entry of the store, and the slot of 512 bytes that holds it.
-- Assumes nothing.
use Prim.Native.Nat.{ℕ, ◌+◌, ◌-◌, ◌*◌, ◌%◌, ◌/◌, ◌≤◌, ◌<◌}
use Rattle.std.proofs.Common.{arith, ◌∙◌, length-take, length-drop, take_at, eqb-true, eq-eqb, leb-true, leb-false, le-leb}
use Rattle.std.specs.Prelude.{◌≡◌, Bool, true, false, ◌&&◌, ◌||◌, eqb, leb, get_or, take}
use Rattle.std.proofs.Math.Path.{refl, ap}
use mathlib.Core.List.{List, [], ◌∷◌, ◌++◌, map, append_assoc}
use Rattle.std.proofs.Math.ListN.{length, drop, replicate, length-append, get_or-append}
use Rattle.std.proofs.lemmas.List.{length-replicate}
use Rattle.std.proofs.Math.Seq.{drop_at, get_or_at, take-append-le, take-append_seam}
use Rattle.std.proofs.lemmas.Bool.{lt-leb}
use Rattle.texts.specs.Choice.{when◌then◌else◌, bit, both_true, cases}
use Rattle.texts.specs.Lists.{every, every_same, every_at}
use Rattle.texts.specs.Text.{folded, low, ascii, is_word, same, same_refl, same_true, word_short, is_phone}
use Rattle.records.specs.Fields.{u16_at, put16}
use Rattle.cells.specs.Cells.{phones_of, cells_of, ascii_phones, length_phones_of, phone_fits_lem, length_cells_of, phones_cells}
use Rattle.slots_spec.specs.Slot.{Entry, is_small, is_folded, fits, slot, entry_of, is_slot, Fits}

-- the count byte of a slot fits as its phones do, and cells hold no phone over 15 bytes
pub count_fits : (r : List ℕ) → length r ≡ 512 → leb (length (entry_of r).phones) 24 ≡ leb (get_or r 51 0) 24
unfolding entry_of
count_fits r l =
    let c = get_or r 51 0 in
    let n = length_phones_of (take (16 * c) (drop 64 r)) in
    let t = length-take (16 * c) (drop 64 r) in
    let d = length-drop 64 r in
    cases (leb c 24)
    (λ e. let h = leb-true c 24 e in rw e (le-leb (length (phones_of (take (16 * c) (drop 64 r)))) 24 (omega arith)))
    (λ e. let h = leb-false c 24 e in rw e (lt-leb (length (phones_of (take (16 * c) (drop 64 r)))) 24 (omega arith)))

pub phones_fit : (b : List ℕ) → every is_phone (phones_of b) ≡ ascii_phones b
unfolding ascii_phones is_phone
phones_fit b = every_same is_phone ascii (phones_of b) [] (λ k h. let n = length_phones_of b in rw (le-leb (length (get_or (phones_of b) k [])) 15 (phone_fits_lem b k (omega arith))))

-- a folded word is what folding makes of it
pub fold_folded : (w : List ℕ) → is_folded w ≡ true → map folded w ≡ w
unfolding is_folded is_small every
fold_folded [] h = refl
fold_folded (x ∷ xs) h =
    let b = both_true (is_small x) (every is_small xs) h in
    let e = eqb-true (folded x) x b.0 in
    let t = fold_folded xs b.1 in
    cc

-- what folding makes is folded
fold_small : (b : ℕ) → is_small (folded b) ≡ true
unfolding is_small folded
fold_small b =
    cases (leb 65 b && leb b 90)
    (λ e. let h = both_true (leb 65 b) (leb b 90) e in
    let l = leb-true 65 b h.0 in
    rw (e, lt-leb (b + 32) 90 (omega arith)) (twice (leb 65 (b + 32)) (b + 32)))
    (λ e. rw (e, e) (eq-eqb b b refl))
  where
    twice : (t : Bool) (n : ℕ) → eqb (when t && false then n + 32 else n) n ≡ true
    twice true n = eq-eqb n n refl
    twice false n = eq-eqb n n refl

pub folded_small : (w : List ℕ) → is_folded (map folded w) ≡ true
unfolding is_folded every
folded_small [] = refl
folded_small (x ∷ xs) = rw (fold_small x) (folded_small xs)

-- entries with the same fields are one
same_fields : (a b : Entry) → a.tag ≡ b.tag → a.word ≡ b.word → a.phones ≡ b.phones → a.exact ≡ b.exact → a ≡ b
same_fields a b t w p x =
    ap (λ (v : ℕ). record { tag = v; word = a.word; phones = a.phones; exact = a.exact }) t
    ∙ ap (λ (v : List ℕ). record { tag = b.tag; word = v; phones = a.phones; exact = a.exact }) w
    ∙ ap (λ (v : List (List ℕ)). record { tag = b.tag; word = b.word; phones = v; exact = a.exact }) p
    ∙ ap (λ (v : Bool). record { tag = b.tag; word = b.word; phones = b.phones; exact = v }) x

pub fits_parts : (e : Entry) → fits e ≡ true → Fits e
unfolding fits
fits_parts e h =
    let a = both_true (low e.tag && is_word e.word && (e.exact || is_folded e.word) && leb (length e.phones) 24) (every is_phone e.phones) h in
    let b = both_true (low e.tag && is_word e.word && (e.exact || is_folded e.word)) (leb (length e.phones) 24) a.0 in
    let c = both_true (low e.tag && is_word e.word) (e.exact || is_folded e.word) b.0 in
    let d = both_true (low e.tag) (is_word e.word) c.0 in
    record { low_tag = d.0; a_word = d.1; small = c.1; few = leb-true (length e.phones) 24 b.1; texts = a.1 }

pub parts_fit : (e : Entry) → Fits e → fits e ≡ true
unfolding fits
parts_fit e f = rw (f.low_tag, f.a_word, f.small, le-leb (length e.phones) 24 f.few, f.texts)

-- a phone of an entry has at most 15 bytes
pub entry_phone : (e : Entry) → Fits e → (i : ℕ) → i < length e.phones → length (get_or e.phones i []) ≤ 15
unfolding is_phone
entry_phone e f i h =
    let p = get_or e.phones i [] in
    leb-true (length p) 15 (both_true (leb (length p) 15) (ascii p) (every_at is_phone e.phones [] f.texts i h)).0

-- the next field of a slot, put and read
pub slot_put : (n v : ℕ) (e : Entry) → put16 (slot n e) 0 v ≡ slot v e
unfolding put16 slot
slot_put n v e = refl

pub slot_next : (n : ℕ) (e : Entry) → u16_at (slot n e) 0 ≡ n
unfolding u16_at slot
slot_next n e = omega arith

-- the slot of an entry that fits has 512 bytes, and the entry is read back
module _ (n : ℕ) (e : Entry) (f : Fits e) where
  key : List ℕ
  key = (n % 256 ∷ n / 256 ∷ []) ++ (e.tag ∷ []) ++ (length e.word ∷ []) ++ e.word ++ replicate (47 - length e.word) 0

  length_key : length key ≡ 51
  unfolding key
  length_key = let w = word_short e.word f.a_word in simp (length-append, length-replicate) (omega arith)

  front : List ℕ
  front = key ++ (length e.phones ∷ []) ++ (bit e.exact ∷ []) ++ replicate 11 0

  length_front : length front ≡ 64
  unfolding front
  length_front = let k = length_key in simp (length-append, length-replicate) (omega arith)

  long : length (cells_of e.phones) ≡ 16 * length e.phones
  long = length_cells_of e.phones (entry_phone e f)

  pub length_slot : length (slot n e) ≡ 512
  unfolding slot front key
  length_slot = let w = word_short e.word f.a_word in let l = length_front in let c = long in let h = f.few in simp (length-append, length-replicate) (omega arith)

  slot_tag : get_or (slot n e) 2 0 ≡ e.tag
  unfolding slot
  slot_tag = refl

  slot_word : take (get_or (slot n e) 3 0) (drop 4 (slot n e)) ≡ e.word
  unfolding slot
  slot_word =
      let w = e.word in
      let z : List ℕ = replicate (47 - length w) 0 in
      let c = length e.phones ∷ [] in
      let f : List ℕ = bit e.exact ∷ [] in
      let o : List ℕ = replicate 11 0 in
      let cs = cells_of e.phones in
      let r : List ℕ = replicate (448 - 16 * length e.phones) 0 in
      take-append-le (length w) (w ++ z ++ c ++ f ++ o ++ cs) r (simp length-append (omega arith))
      ∙ take-append-le (length w) (w ++ z ++ c ++ f ++ o) cs (simp length-append (omega arith))
      ∙ take-append-le (length w) (w ++ z ++ c ++ f) o (simp length-append (omega arith))
      ∙ take-append-le (length w) (w ++ z ++ c) f (simp length-append (omega arith))
      ∙ take-append-le (length w) (w ++ z) c (simp length-append (omega arith))
      ∙ take-append_seam w z

  slot_count : get_or (slot n e) 51 0 ≡ length e.phones
  unfolding slot key front
  slot_count =
      let w = word_short e.word f.a_word in
      let l = length_key in
      let m = length_front in
      let cs = cells_of e.phones in
      let r : List ℕ = replicate (448 - 16 * length e.phones) 0 in
      get_or-append (front ++ cs) r 0 51 (simp (length-append, length-replicate) (omega arith))
      ∙ get_or-append front cs 0 51 (omega arith)
      ∙ get_or-append (key ++ (length e.phones ∷ []) ++ (bit e.exact ∷ [])) (replicate 11 0) 0 51 (simp (length-append, length-replicate) (omega arith))
      ∙ get_or-append (key ++ (length e.phones ∷ [])) (bit e.exact ∷ []) 0 51 (simp (length-append, length-replicate) (omega arith))
      ∙ get_or_at key (length e.phones) [] 0 51 l

  slot_flag : get_or (slot n e) 52 0 ≡ bit e.exact
  unfolding slot key front
  slot_flag =
      let w = word_short e.word f.a_word in
      let l = length_key in
      let m = length_front in
      let cs = cells_of e.phones in
      let r : List ℕ = replicate (448 - 16 * length e.phones) 0 in
      let k : length (key ++ (length e.phones ∷ [])) ≡ 52 = length-append key (length e.phones ∷ []) ∙ omega (arith, l) in
      get_or-append (front ++ cs) r 0 52 (simp (length-append, length-replicate) (omega arith))
      ∙ get_or-append front cs 0 52 (omega arith)
      ∙ get_or-append (key ++ (length e.phones ∷ []) ++ (bit e.exact ∷ [])) (replicate 11 0) 0 52 (simp (length-append, length-replicate) (omega arith))
      ∙ get_or_at (key ++ (length e.phones ∷ [])) (bit e.exact) [] 0 52 k

  slot_exact : eqb (get_or (slot n e) 52 0) 1 ≡ e.exact
  slot_exact = rw slot_flag (go e.exact)
    where
      go : (x : Bool) → eqb (bit x) 1 ≡ x
      go true = refl
      go false = refl

  slot_phones : phones_of (take (16 * get_or (slot n e) 51 0) (drop 64 (slot n e))) ≡ e.phones
  unfolding slot key front
  slot_phones =
      let cs = cells_of e.phones in
      let r : List ℕ = replicate (448 - 16 * length e.phones) 0 in
      let d : drop 64 (slot n e) ≡ cs ++ r = ap (λ (s : List ℕ). drop 64 s) (append_assoc front cs r) ∙ drop_at front (cs ++ r) 64 length_front in
      ap (λ (k : ℕ). phones_of (take (16 * k) (drop 64 (slot n e)))) slot_count
      ∙ ap (λ (s : List ℕ). phones_of (take (16 * length e.phones) s)) d
      ∙ ap phones_of (take_at cs r (16 * length e.phones) long)
      ∙ phones_cells e.phones (entry_phone e f)

  pub slot_entry : entry_of (slot n e) ≡ e
  unfolding entry_of
  slot_entry = same_fields (entry_of (slot n e)) e slot_tag slot_word slot_phones slot_exact

  -- so it is sound by itself
  pub slot_is_slot : is_slot (slot n e) ≡ true
  unfolding is_slot
  slot_is_slot = rw (slot_entry, slot_next n e, parts_fit e f) (same_refl (slot n e))

-- a slot that is sound by itself is that of its entry, which fits
pub slot_of : (r : List ℕ) → is_slot r ≡ true → Fits (entry_of r) × (r ≡ slot (u16_at r 0) (entry_of r))
unfolding is_slot
slot_of r h =
    let b = both_true (fits (entry_of r)) (same r (slot (u16_at r 0) (entry_of r))) h in
    (fits_parts (entry_of r) b.0, same_true r (slot (u16_at r 0) (entry_of r)) b.1)
