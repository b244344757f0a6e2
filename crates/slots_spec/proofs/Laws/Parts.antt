-- Theorems about `specs/Laws/Parts.antt`: A slot decided where it stands: the law that tests on its parts are what `is_slot` says.
-- Assumes nothing.
use Prim.Native.Nat.{ℕ, zero, suc, ◌+◌, ◌-◌, ◌*◌, ◌%◌, ◌/◌, ◌≤◌, ◌<◌}
use Rattle.std.proofs.Common.{one-add, ◌∙◌, length-take, take-append-drop, take-take}
use native.Mathlib.Omega.{arith}
use Rattle.std.specs.Prelude.{◌≡◌, Bool, true, false, ◌&&◌, eqb, leb}
use Rattle.std.proofs.Math.Path.{refl, sym, ap}
use Rattle.std.proofs.Math.Bool.{and_assoc, and-true, and-false}
use mathlib.Core.List.{List, [], ◌∷◌, ◌++◌, map}
use Rattle.std.proofs.Math.ListN.{length, get_or, take, drop, replicate, length-append, length-drop}
use Rattle.std.proofs.lemmas.List.{length-replicate}
use Rattle.std.proofs.Math.Seq.{take_all, take-add, take-suc, drop_at, length-take-le}
use borrow.Author.Tests.{eqb-true, eqb-false, eq-eqb, ne_eqb, lt-ltb, leb-true, leb-false, le-leb, lt-leb}
use Rattle.texts.specs.Choice.{bit, both_true, cases}
use Rattle.texts.specs.Lists.{every, every_append}
use Rattle.texts.specs.Text.{is, low, ascii, is_word, same, same_refl, eq_same, word_short}
use Rattle.texts.specs.Laws.Same.{same_append, same_zeros, zeros_low}
use Rattle.records.specs.Fields.{u16_at}
use Rattle.records.specs.Records.{first_records, records}
use Rattle.cells.specs.Cells.{text, phones_of, cell, cells_of, ascii_phones, length_phones_of, length_cells_of, length_cell, phone_fits_lem}
use Rattle.slots_spec.specs.Slot.{entry_of, fits, slot, is_slot}
use Rattle.slots_spec.proofs.Slot.{count_fits, phones_fit}
use Rattle.slots_spec.specs.Laws.Parts.{is_stored, is_key, is_blank, used_cells, is_tidy}

-- a string that goes on with t behind its first k bytes
same_more : (r s t : List ℕ) (k m : ℕ) → k ≤ m → m ≤ length r → length s ≡ k → same (take m r) (s ++ t) ≡ (same (take k r) s && same (drop k (take m r)) t)
same_more r s t k m h l e =
    let f : length (take k r) ≡ length s = length-take-le k r (omega arith) ∙ sym e in
    ap (λ (x : List ℕ). same x (s ++ t)) (sym (take-append-drop k (take m r)) ∙ ap (λ (x : List ℕ). x ++ drop k (take m r)) (take-take k m r h))
    ∙ same_append (take k r) (drop k (take m r)) s t f

-- four tests in another order
swap : (a b c d : Bool) → (a && b && (c && d)) ≡ (a && c && (b && d))
swap true true c d = refl
swap true false true d = refl
swap true false false d = refl
swap false b c d = refl

front : (a z s w : Bool) → (a && (z && s && w)) ≡ (z && w && (a && s))
front true true true w = sym (and-true w)
front true true false true = refl
front true true false false = refl
front true false s w = refl
front false true s true = refl
front false true s false = refl
front false false s w = refl

-- a test that follows from another
spare : (a b z : Bool) → (z ≡ true → b ≡ true) → (a && z) ≡ (a && b && z)
spare false b z h = refl
spare true b true h = rw (h refl)
spare true true false h = refl
spare true false false h = refl

-- a cell below 128 and tidy is that of its text, which is below 128: where its length fits, and where it does not
short_cell_lem : (n : ℕ) (b : List ℕ) → length b ≡ 15 → n ≤ 15 → (ascii (take n b) && same (n ∷ b) (cell (take n b))) ≡ (ascii (n ∷ b) && is_tidy (n ∷ b))
unfolding cell same is_tidy ascii every low
short_cell_lem n b l h =
    let t : length (take n b) ≡ n = length-take-le n b (omega arith) in
    let d : length (drop n b) ≡ 15 - n = length-drop n b ∙ (omega arith) in
    let s : same b (take n b ++ replicate (15 - n) 0) ≡ every (is 0) (drop n b) =
    ap (λ (x : List ℕ). same x (take n b ++ replicate (15 - n) 0)) (sym (take-append-drop n b))
    ∙ same_append (take n b) (drop n b) (take n b) (replicate (15 - n) 0) refl
    ∙ rw (same_refl (take n b), same_zeros (drop n b) (15 - n) d) in
    let a : every low b ≡ (every low (take n b) && every low (drop n b)) = ap (every low) (sym (take-append-drop n b)) ∙ every_append low (take n b) (drop n b) in
    rw (one-add, t, s, eq-eqb n n refl, lt-ltb n 128 (omega arith), le-leb n 15 h, a)
    (spare (every low (take n b)) (every low (drop n b)) (every (is 0) (drop n b)) (zeros_low (drop n b)))

long_cell : (n : ℕ) (b : List ℕ) → length b ≡ 15 → 15 < n → (ascii (take n b) && same (n ∷ b) (cell (take n b))) ≡ (ascii (n ∷ b) && is_tidy (n ∷ b))
unfolding cell same is_tidy
long_cell n b l h =
    let t : take n b ≡ b = take_all n b (omega arith) in
    rw (t, l, ne_eqb n 15 (omega arith), lt-leb n 15 h, and-false (ascii b), and-false (ascii (n ∷ b)))

tidy_cell : (c : List ℕ) → length c ≡ 16 → (ascii (text c) && same c (cell (text c))) ≡ (ascii c && is_tidy c)
unfolding text
tidy_cell [] l = absurd (omega arith)
tidy_cell (n ∷ b) l =
    cases (leb n 15)
    (λ e. short_cell_lem n b (omega arith) (leb-true n 15 e))
    (λ e. long_cell n b (omega arith) (leb-false n 15 e))

text_fits : (c : List ℕ) → length c ≡ 16 → length (text c) ≤ 15
unfolding text
text_fits c l = let m = length-take (get_or c 0 0) (drop 1 c) in let n = length-drop 1 c in omega arith

-- and so are cells one behind the other
tidy_first : (n : ℕ) (b : List ℕ) → length b ≡ 16 * n
    → (every ascii (map text (first_records 16 n b)) && same b (cells_of (map text (first_records 16 n b)))) ≡ (ascii b && every is_tidy (first_records 16 n b))
unfolding first_records cells_of every same ascii
tidy_first zero [] l = refl
tidy_first zero (x ∷ xs) l = absurd (omega arith)
tidy_first (suc n) b l =
    let c = take 16 b in
    let d = drop 16 b in
    let lc : length c ≡ 16 = length-take-le 16 b (omega arith) in
    let ld : length d ≡ 16 * n = length-drop 16 b ∙ (omega arith) in
    let ps = map text (first_records 16 n d) in
    let lt = length_cell (text c) (text_fits c lc) in
    let s : same b (cell (text c) ++ cells_of ps) ≡ (same c (cell (text c)) && same d (cells_of ps)) =
    ap (λ (x : List ℕ). same x (cell (text c) ++ cells_of ps)) (sym (take-append-drop 16 b))
    ∙ same_append c d (cell (text c)) (cells_of ps) (lc ∙ sym lt) in
    let a : ascii b ≡ (ascii c && ascii d) = ap ascii (sym (take-append-drop 16 b)) ∙ every_append low c d in
    let t = tidy_cell c lc in
    let ih = tidy_first n d ld in
    rw (s, swap (ascii (text c)) (every ascii ps) (same c (cell (text c))) (same d (cells_of ps)), t, ih, a)
    (swap (ascii c) (is_tidy c) (ascii d) (every is_tidy (first_records 16 n d)))

tidy_cells : (b : List ℕ) (n : ℕ) → length b ≡ 16 * n → (ascii_phones b && same b (cells_of (phones_of b))) ≡ (ascii b && every is_tidy (records 16 b))
unfolding ascii_phones phones_of records
tidy_cells b n l = let e : length b / 16 ≡ n = omega arith in rw e (tidy_first n b l)

first_four : (r : List ℕ) → 4 ≤ length r → take 4 r ≡ get_or r 0 0 ∷ get_or r 1 0 ∷ get_or r 2 0 ∷ get_or r 3 0 ∷ []
first_four [] h = absurd (omega arith)
first_four (a ∷ []) h = absurd (omega arith)
first_four (a ∷ b ∷ []) h = absurd (omega arith)
first_four (a ∷ b ∷ c ∷ []) h = absurd (omega arith)
first_four (a ∷ b ∷ c ∷ d ∷ r) h = refl

-- a byte that is 0 or 1
flag_byte : (x : ℕ) → same (x ∷ []) (bit (eqb x 1) ∷ []) ≡ leb x 1
unfolding same
flag_byte x =
    cases (eqb x 1)
    (λ e. let h = eqb-true x 1 e in rw (e, le-leb x 1 (omega arith)) (rw (eq-eqb x 1 h)))
    (λ e. let n = eqb-false x 1 e in
    cases (eqb x 0)
    (λ z. let h = eqb-true x 0 z in rw (e, z, le-leb x 1 (omega arith)))
    (λ z. let m = eqb-false x 0 z in rw (e, z, lt-leb x 1 (omega arith))))

-- what a key that fits says of the lengths
key_parts : (r : List ℕ) → length r ≡ 512 → is_key r ≡ true → (get_or r 3 0 ≤ 47) × (get_or r 51 0 ≤ 24)
unfolding is_key
key_parts r l h =
    let n = get_or r 3 0 in
    let w = take n (drop 4 r) in
    let a = both_true (low (get_or r 2 0) && is_word w && is_stored r) (leb (get_or r 51 0) 24) h in
    let b = both_true (low (get_or r 2 0) && is_word w) (is_stored r) a.0 in
    let d = both_true (low (get_or r 2 0)) (is_word w) b.0 in
    let s = word_short w d.1 in
    let t = length-take n (drop 4 r) in
    let u = length-drop 4 r in
    (omega arith, leb-true (get_or r 51 0) 24 a.1)

-- a slot with such a key, compared part by part with the slot of its entry
module _ (r : List ℕ) (l : length r ≡ 512) (byte : get_or r 0 0 < 256) (hn : get_or r 3 0 ≤ 47) (hc : get_or r 51 0 ≤ 24) where
  n : ℕ
  n = get_or r 3 0

  m : ℕ
  m = get_or r 51 0

  w : List ℕ
  w = take n (drop 4 r)

  cs : List ℕ
  cs = take (16 * m) (drop 64 r)

  long_word : length w ≡ n
  unfolding w n
  long_word = length-take-le n (drop 4 r) (rw length-drop (omega arith))

  long_cells : length cs ≡ 16 * m
  unfolding cs m
  long_cells = length-take-le (16 * m) (drop 64 r) (rw length-drop (omega arith))

  long_phones : length (phones_of cs) ≡ m
  long_phones = let a = length_phones_of cs in let b = long_cells in omega arith

  key : List ℕ
  key = (u16_at r 0 % 256 ∷ u16_at r 0 / 256 ∷ []) ++ (get_or r 2 0 ∷ []) ++ (length w ∷ []) ++ w

  to_word : take (4 + n) r ≡ key
  unfolding key w n u16_at
  to_word =
      let a : (get_or r 0 0 + 256 * get_or r 1 0) % 256 ≡ get_or r 0 0 = omega arith in
      let b : (get_or r 0 0 + 256 * get_or r 1 0) / 256 ≡ get_or r 1 0 = omega arith in
      take-add 4 n r ∙ rw (first_four r (omega arith), a, b, long_word)

  long_key : length key ≡ 4 + n
  unfolding n
  long_key = ap (λ (x : List ℕ). length x) (sym to_word) ∙ length-take-le (4 + n) r (omega arith)

  pad : List ℕ
  pad = replicate (47 - length w) 0

  to_count : same (take 51 r) (key ++ pad) ≡ every (is 0) (drop (4 + n) (take 51 r))
  unfolding pad n
  to_count =
      let z : length (drop (4 + n) (take 51 r)) ≡ 47 - length w = length-drop (4 + n) (take 51 r) ∙ omega (arith, length-take-le 51 r (omega arith), long_word) in
      same_more r key pad (4 + n) 51 (omega arith) (omega arith) long_key
      ∙ rw (eq_same (take (4 + n) r) key to_word, same_zeros (drop (4 + n) (take 51 r)) (47 - length w) z)

  long_front : length (key ++ pad) ≡ 51
  unfolding pad n
  long_front = let a = long_key in let b = long_word in simp (length-append, length-replicate) (omega arith)

  long_count : length (key ++ pad ++ (length (phones_of cs) ∷ [])) ≡ 52
  long_count = length-append (key ++ pad) (length (phones_of cs) ∷ []) ∙ ap (λ (k : ℕ). k + 1) long_front

  flag : List ℕ
  flag = bit (eqb (get_or r 52 0) 1) ∷ []

  long_flag : length (key ++ pad ++ (length (phones_of cs) ∷ []) ++ flag) ≡ 53
  unfolding flag
  long_flag = length-append (key ++ pad ++ (length (phones_of cs) ∷ [])) (bit (eqb (get_or r 52 0) 1) ∷ []) ∙ ap (λ (k : ℕ). k + 1) long_count

  long_spare : length (key ++ pad ++ (length (phones_of cs) ∷ []) ++ flag ++ replicate 11 0) ≡ 64
  long_spare = length-append (key ++ pad ++ (length (phones_of cs) ∷ []) ++ flag) (replicate 11 0) ∙ ap (λ (k : ℕ). k + 11) long_flag

  past_count : same (take 52 r) (key ++ pad ++ (length (phones_of cs) ∷ [])) ≡ every (is 0) (drop (4 + n) (take 51 r))
  unfolding m same
  past_count =
      let e : take 52 r ≡ take 51 r ++ (get_or r 51 0 ∷ []) = take-suc r 51 0 (omega arith) in
      let t = length-take-le 51 r (omega arith) in
      ap (λ (x : List ℕ). same x (key ++ pad ++ (length (phones_of cs) ∷ []))) e
      ∙ same_append (take 51 r) (get_or r 51 0 ∷ []) (key ++ pad) (length (phones_of cs) ∷ []) (t ∙ sym long_front)
      ∙ rw (long_phones, eq-eqb (get_or r 51 0) (get_or r 51 0) refl, to_count) (and-true (every (is 0) (drop (4 + n) (take 51 r))))

  past_flag : same (take 53 r) (key ++ pad ++ (length (phones_of cs) ∷ []) ++ flag) ≡ (every (is 0) (drop (4 + n) (take 51 r)) && leb (get_or r 52 0) 1)
  unfolding flag
  past_flag =
      let e : take 53 r ≡ take 52 r ++ (get_or r 52 0 ∷ []) = take-suc r 52 0 (omega arith) in
      let t = length-take-le 52 r (omega arith) in
      ap (λ (x : List ℕ). same x (key ++ pad ++ (length (phones_of cs) ∷ []) ++ (bit (eqb (get_or r 52 0) 1) ∷ []))) e
      ∙ same_append (take 52 r) (get_or r 52 0 ∷ []) (key ++ pad ++ (length (phones_of cs) ∷ [])) (bit (eqb (get_or r 52 0) 1) ∷ []) (t ∙ sym long_count)
      ∙ rw (past_count, flag_byte (get_or r 52 0))

  to_cells : same (take 64 r) (key ++ pad ++ (length (phones_of cs) ∷ []) ++ flag ++ replicate 11 0)
      ≡ (every (is 0) (drop (4 + n) (take 51 r)) && leb (get_or r 52 0) 1 && every (is 0) (drop 53 (take 64 r)))
  to_cells =
      let z : length (drop 53 (take 64 r)) ≡ 11 = length-drop 53 (take 64 r) ∙ omega (arith, length-take-le 64 r (omega arith)) in
      same_more r (key ++ pad ++ (length (phones_of cs) ∷ []) ++ flag) (replicate 11 0) 53 64 (omega arith) (omega arith) long_flag
      ∙ rw (past_flag, same_zeros (drop 53 (take 64 r)) 11 z)

  to_end : same (take (64 + 16 * m) r) (key ++ pad ++ (length (phones_of cs) ∷ []) ++ flag ++ replicate 11 0 ++ cells_of (phones_of cs))
      ≡ (every (is 0) (drop (4 + n) (take 51 r)) && leb (get_or r 52 0) 1 && every (is 0) (drop 53 (take 64 r)) && same cs (cells_of (phones_of cs)))
  unfolding m cs
  to_end =
      let d : drop 64 (take (64 + 16 * m) r) ≡ cs = ap (λ (x : List ℕ). drop 64 x) (take-add 64 (16 * m) r) ∙ drop_at (take 64 r) cs 64 (length-take-le 64 r (omega arith)) in
      same_more r (key ++ pad ++ (length (phones_of cs) ∷ []) ++ flag ++ replicate 11 0) (cells_of (phones_of cs)) 64 (64 + 16 * m) (omega arith) (omega arith) long_spare
      ∙ rw (to_cells, d)

  long_used : length (key ++ pad ++ (length (phones_of cs) ∷ []) ++ flag ++ replicate 11 0 ++ cells_of (phones_of cs)) ≡ 64 + 16 * m
  long_used =
      let c = length_cells_of (phones_of cs) (λ i h. phone_fits_lem cs i (omega (arith, length_phones_of cs))) in
      let a = long_phones in
      length-append (key ++ pad ++ (length (phones_of cs) ∷ []) ++ flag ++ replicate 11 0) (cells_of (phones_of cs)) ∙ rw (long_spare, c, a)

  whole : same r (slot (u16_at r 0) (entry_of r))
      ≡ (every (is 0) (drop (4 + n) (take 51 r)) && leb (get_or r 52 0) 1 && every (is 0) (drop 53 (take 64 r))
      && same cs (cells_of (phones_of cs)) && every (is 0) (drop (64 + 16 * m) r))
  unfolding slot entry_of key pad flag w n m cs
  whole =
      let p = key ++ pad ++ (length (phones_of cs) ∷ []) ++ flag ++ replicate 11 0 ++ cells_of (phones_of cs) in
      let q : List ℕ = replicate (448 - 16 * length (phones_of cs)) 0 in
      let t : take 512 r ≡ r = take_all 512 r (omega arith) in
      let z : length (drop (64 + 16 * m) r) ≡ 448 - 16 * length (phones_of cs) = length-drop (64 + 16 * m) r ∙ omega (arith, long_phones) in
      ap (λ (x : List ℕ). same x (p ++ q)) (sym t)
      ∙ same_more r p q (64 + 16 * m) 512 (omega arith) (omega arith) long_used
      ∙ rw (to_end, t, same_zeros (drop (64 + 16 * m) r) (448 - 16 * length (phones_of cs)) z)

-- an entry fits if its key does and its phones are below 128
fits_key : (r : List ℕ) → length r ≡ 512 → fits (entry_of r) ≡ (is_key r && ascii_phones (used_cells r))
unfolding fits is_key is_stored entry_of used_cells
fits_key r l =
    let c = count_fits r l in
    let p = phones_fit (used_cells r) in
    rw (c, p)

key_whole : (r : List ℕ) → length r ≡ 512 → get_or r 0 0 < 256 → get_or r 3 0 ≤ 47 → get_or r 51 0 ≤ 24
    → (ascii_phones (used_cells r) && same r (slot (u16_at r 0) (entry_of r))) ≡ (is_blank r && ascii (used_cells r) && every is_tidy (records 16 (used_cells r)))
unfolding is_blank used_cells n m cs
key_whole r l byte hn hc =
    let used = take (16 * get_or r 51 0) (drop 64 r) in
    let x = every (is 0) (drop (4 + get_or r 3 0) (take 51 r)) && leb (get_or r 52 0) 1 && every (is 0) (drop 53 (take 64 r)) in
    let y = every (is 0) (drop (64 + 16 * get_or r 51 0) r) in
    let c : length used ≡ 16 * get_or r 51 0 = length-take-le (16 * get_or r 51 0) (drop 64 r) (rw length-drop (omega arith)) in
    ap (λ (b : Bool). ascii_phones used && b) (whole r l byte hn hc)
    ∙ front (ascii_phones used) x (same used (cells_of (phones_of used))) y
    ∙ ap (λ (b : Bool). x && y && b) (tidy_cells used (get_or r 51 0) c)
    ∙ sym (and_assoc (x && y) (ascii used) (every is_tidy (records 16 used)))

-- a slot is sound by itself if its key fits, it is blank where nothing stands, and its cells are below 128 and tidy
pub slot_parts : (r : List ℕ) → length r ≡ 512 → get_or r 0 0 < 256
    → is_slot r ≡ (is_key r && is_blank r && ascii (used_cells r) && every is_tidy (records 16 (used_cells r)))
unfolding is_slot
slot_parts r l byte =
    rw (fits_key r l)
    (cases (is_key r)
    (λ k. let h = key_parts r l k in rw k (key_whole r l byte h.0 h.1))
    (λ k. rw k))
