-- 01, Phones: a phone list is cells of 16 bytes, each a length byte and 15 bytes. A phone is its text.
-- Assumes nothing.
use Rattle.std.specs.Prelude.{ℕ, zero, suc, ◌+◌, ◌-◌, ◌*◌, ◌/◌, ◌≤◌, ◌<◌, ◌≡◌, refl, Bool, List, [], ◌∷◌, ◌++◌, map, leb, length, get_or, take, drop, replicate}
use Rattle.std.proofs.Common.{not-suc-le-zero, arith, sym, ap, ◌∙◌, append_assoc, length-append, length-take, length-drop, take_at, drop_at, take_all}
use Rattle.std.proofs.lemmas.List.{length-replicate, length-map}
use Rattle.std.proofs.Math.ListN.{get_or-map}
use Rattle.std.proofs.Math.Seq.{paste, take-append-add, take-append_seam}
use Rattle.texts.specs.Lists.{every}
use Rattle.texts.specs.Text.{ascii}
use Rattle.records.specs.Records.{first_records, records, record_at, put_record, record_of_lem, records_from, length_records, paste_more, paste_front}

-- the text of a cell: so many of its 15 bytes as the length byte says
unfoldable pub text : List ℕ → List ℕ
text c = take (get_or c 0 0) (drop 1 c)

-- the phones of a list handed in, which is its cells alone: a remainder and bytes past a text are ignored
unfoldable pub phones_of : List ℕ → List (List ℕ)
phones_of b = map text (records 16 b)

-- no phone of a list handed in holds a byte of 128 or more (refusal 3)
unfoldable pub ascii_phones : List ℕ → Bool
ascii_phones b = every ascii (phones_of b)

-- no cell of a list handed in has a length over 15 (refusals 5 and 7)
unfoldable pub short_cell : List ℕ → Bool
short_cell c = leb (get_or c 0 0) 15

unfoldable pub short_phones : List ℕ → Bool
short_phones b = every short_cell (records 16 b)

-- a phone as a cell: its length, its text, zeros
unfoldable pub cell : List ℕ → List ℕ
cell p = length p ∷ p ++ replicate (15 - length p) 0

-- a phone list as cells
unfoldable pub cells_of : List (List ℕ) → List ℕ
cells_of [] = []
cells_of (p ∷ ps) = cell p ++ cells_of ps

pub length_cell : (p : List ℕ) → length p ≤ 15 → length (cell p) ≡ 16
unfolding cell
length_cell p h = simp (length-append, length-replicate) (omega arith)

-- a list's phones: how many, the one at a place, those from a place on
pub length_phones_of : (b : List ℕ) → length (phones_of b) ≡ length b / 16
unfolding phones_of
length_phones_of b = length-map (records 16 b) text ∙ length_records 16 b

pub phone_at : (b : List ℕ) (i : ℕ) → i < length b / 16 → get_or (phones_of b) i [] ≡ text (record_at 16 b i)
unfolding phones_of text
phone_at b i h = get_or-map text (records 16 b) i [] ∙ ap text (record_of_lem 16 i b h)

drop_map : (f : List ℕ → List ℕ) (n : ℕ) (l : List (List ℕ)) → drop n (map f l) ≡ map f (drop n l)
drop_map f zero l = refl
drop_map f (suc n) [] = refl
drop_map f (suc n) (x ∷ xs) = drop_map f n xs

pub phones_from : (b : List ℕ) (i : ℕ) → i ≤ length b / 16 → phones_of (drop (16 * i) b) ≡ drop i (phones_of b)
unfolding phones_of
phones_from b i h = ap (λ (l : List (List ℕ)). map text l) (records_from 16 i b (omega arith) h) ∙ sym (drop_map text i (records 16 b))

-- a phone handed in has at most 15 bytes
pub phone_fits_lem : (b : List ℕ) (i : ℕ) → i < length b / 16 → length (get_or (phones_of b) i []) ≤ 15
unfolding text record_at
phone_fits_lem b i h =
    let c = record_at 16 b i in
    let l = length-take 16 (drop (16 * i) b) in
    let m = length-take (get_or c 0 0) (drop 1 c) in
    let n = length-drop 1 c in
    rw (phone_at b i h) (omega arith)

-- a phone list as cells: how long, and its front cell by cell
pub length_cells_of : (ps : List (List ℕ)) → ((i : ℕ) → i < length ps → length (get_or ps i []) ≤ 15) → length (cells_of ps) ≡ 16 * length ps
unfolding cells_of
length_cells_of [] h = refl
length_cells_of (p ∷ ps) h =
    let c = length_cell p (h 0 (omega arith)) in
    let ih = length_cells_of ps (λ i l. h (suc i) (omega arith)) in
    simp length-append (omega arith)

pub cells_take : (ps : List (List ℕ)) (i : ℕ) → ((k : ℕ) → k < length ps → length (get_or ps k []) ≤ 15) → i < length ps
    → take (16 * (i + 1)) (cells_of ps) ≡ take (16 * i) (cells_of ps) ++ cell (get_or ps i [])
unfolding cells_of
cells_take [] i h l = absurd (not-suc-le-zero l)
cells_take (p ∷ ps) zero h l =
    let e : 16 * (0 + 1) ≡ 16 = omega arith in
    rw e (take_at (cell p) (cells_of ps) 16 (length_cell p (h 0 (omega arith))))
cells_take (p ∷ ps) (suc i) h l =
    let c = length_cell p (h 0 (omega arith)) in
    let e : 16 * (suc i + 1) ≡ length (cell p) + 16 * (i + 1) = omega arith in
    let f : 16 * suc i ≡ length (cell p) + 16 * i = omega arith in
    let ih = cells_take ps i (λ k m. h (suc k) (omega arith)) (omega arith) in
    rw (e, f, take-append-add (cell p) (cells_of ps) (16 * (i + 1)), take-append-add (cell p) (cells_of ps) (16 * i), ih)
    (sym (append_assoc (cell p) (take (16 * i) (cells_of ps)) (cell (get_or ps i []))))

-- one more cell behind the first i cells of a list, as a loop writes them from cell k on
pub cells_turn : (d : List ℕ) (ps : List (List ℕ)) (k i : ℕ) → ((j : ℕ) → j < length ps → length (get_or ps j []) ≤ 15) → i < length ps
    → 16 * k + 16 * length ps ≤ length d
    → put_record 16 (paste d (16 * k) (cells_of ps) (16 * i)) (k + i) (cell (get_or ps i [])) ≡ paste d (16 * k) (cells_of ps) (16 * (i + 1))
unfolding put_record
cells_turn d ps k i h l room =
    let n = length_cells_of ps h in
    let c = length_cell (get_or ps i []) (h i l) in
    let e : 16 * (k + i) ≡ 16 * k + 16 * i = omega arith in
    let f : 16 * (i + 1) ≡ 16 * i + 16 = omega arith in
    let t : take (16 * i + 16) (cells_of ps) ≡ take (16 * i) (cells_of ps) ++ take 16 (cell (get_or ps i [])) =
    ap (λ (m : ℕ). take m (cells_of ps)) (sym f) ∙ cells_take ps i h l ∙ ap (λ (r : List ℕ). take (16 * i) (cells_of ps) ++ r) (sym (take_all 16 (cell (get_or ps i [])) (omega arith))) in
    ap (λ (m : ℕ). paste (paste d (16 * k) (cells_of ps) (16 * i)) m (cell (get_or ps i [])) 16) e
    ∙ paste_more d (cells_of ps) (cell (get_or ps i [])) (16 * k) (16 * i) 16 (omega arith) (omega arith) t
    ∙ ap (λ (m : ℕ). paste d (16 * k) (cells_of ps) m) (sym f)

-- the phones of a list written as cells
text_cell : (p : List ℕ) → text (cell p) ≡ p
unfolding text cell
text_cell p = take-append_seam p (replicate (15 - length p) 0)

first_cells : (ps : List (List ℕ)) → ((i : ℕ) → i < length ps → length (get_or ps i []) ≤ 15) → map text (first_records 16 (length ps) (cells_of ps)) ≡ ps
unfolding cells_of first_records
first_cells [] h = refl
first_cells (p ∷ ps) h =
    let l = length_cell p (h 0 (omega arith)) in
    let ih = first_cells ps (λ i k. h (suc i) (omega arith)) in
    rw (take_at (cell p) (cells_of ps) 16 l, drop_at (cell p) (cells_of ps) 16 l, text_cell p, ih)

pub phones_cells : (ps : List (List ℕ)) → ((i : ℕ) → i < length ps → length (get_or ps i []) ≤ 15) → phones_of (cells_of ps) ≡ ps
unfolding phones_of records
phones_cells ps h =
    let n = length_cells_of ps h in
    let e : length (cells_of ps) / 16 ≡ length ps = omega arith in
    rw e (first_cells ps h)

-- all cells of a list at the front of a buffer
pub cells_front : (d : List ℕ) (ps : List (List ℕ)) (n : ℕ) → ((i : ℕ) → i < length ps → length (get_or ps i []) ≤ 15) → length ps ≡ n
    → paste d 0 (cells_of ps) (16 * n) ≡ cells_of ps ++ drop (16 * length ps) d
cells_front d ps n h e =
    let l = length_cells_of ps h in
    let k : 16 * n ≡ length (cells_of ps) = omega arith in
    ap (λ (m : ℕ). paste d 0 (cells_of ps) m) k ∙ paste_front d (cells_of ps) ∙ ap (λ (m : ℕ). cells_of ps ++ drop m d) l
