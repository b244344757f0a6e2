-- 01, Sayable: a machine's steps, and the letters that it accepts.
-- Assumes nothing.
use Rattle.std.specs.Prelude.{ℕ, ◌+◌, ◌-◌, ◌*◌, ◌%◌, ◌/◌, ◌≤◌, ◌<◌, ◌≡◌, Bool, true, false, Option, None, Some, List, [], ◌∷◌, map, eqb, length, get_or, drop}
use Rattle.std.proofs.Common.{add-one, arith, ◌∙◌, length-drop, drop_of_length-le, drop-cons}
use Rattle.std.proofs.lemmas.List.{length-map}
use borrow.Author.Tests.{eq-eqb, ne_eqb}
use Rattle.texts.specs.Choice.{when◌then◌else◌}
use Rattle.texts.specs.Lists.{some, get_d_map}
use Rattle.texts.specs.Text.{bytes, folded, is}
use Rattle.records.specs.Fields.{u16_at, u16_drop}
use Rattle.records.specs.Records.{records, length_records, record_of_lem, u16_of}
use Rattle.std.specs.declared.ops.ControlFlow.{ControlFlow}
use Rattle.std.specs.declared.ops.ControlFlow.TheVariants.{Continue, Break}

-- a table's cells: u16s behind 4 skipped bytes, an odd last byte ignored
abbrev cell_of : List ℕ → ℕ
cell_of r = u16_at r 0

unfoldable pub cells : List ℕ → List ℕ
cells table = map cell_of (records 2 (drop 4 table))

-- n and m become N; a, e, i, o, u and y become V
unfoldable pub symbol : ℕ → ℕ
symbol b = when some (is b) (bytes "nm") then 78 else when some (is b) (bytes "aeiouy") then 86 else b

-- the step on a symbol, by the cells from the state on: 0 or the end fails; cell mod 128 equal to the symbol gives cell div 128
unfoldable pub scan : List ℕ → ℕ → Option ℕ
scan [] s = None
scan (c ∷ cs) s = when eqb c 0 then None else when eqb (c % 128) s then Some (c / 128) else scan cs s

unfoldable pub step : List ℕ → ℕ → ℕ → Option ℕ
step table state s = scan (drop state table) s

-- what a step on a symbol comes to: a walk goes on to a state, or it ends, accepted at the first V
abbrev pub on_step : ℕ → Option ℕ → ControlFlow Bool ℕ
on_step s (Some next) = when eqb s 86 then Break true else Continue next
on_step s None = Break false

unfoldable pub moved : List ℕ → ℕ → ℕ → ControlFlow Bool ℕ
moved table state s = on_step s (step table state s)

abbrev pub on_moved : (ℕ → Bool) → ControlFlow Bool ℕ → Bool
on_moved go (Continue next) = go next
on_moved go (Break accepted) = accepted

-- the letters of a word, folded, reach a V from a state
unfoldable pub accepts : List ℕ → ℕ → List ℕ → Bool
accepts table state [] = false
accepts table state (b ∷ bs) = on_moved (λ (next : ℕ). accepts table next bs) (moved table state (symbol (folded b)))

-- a table's cells as the code reads them
pub length_cells : (t : List ℕ) → length (cells t) ≡ (length t - 4) / 2
unfolding cells
length_cells t = length-map (records 2 (drop 4 t)) cell_of ∙ length_records 2 (drop 4 t) ∙ rw length-drop

pub cell_at : (t : List ℕ) (i : ℕ) → i < length (cells t) → get_or (cells t) i 0 ≡ u16_at t (4 + 2 * i)
unfolding cells
cell_at t i h =
    let r = records 2 (drop 4 t) in
    let z : 4 + (2 * i + 0) ≡ 4 + 2 * i = omega arith in
    let k : i < length r = rw (length-map r cell_of) at h in
    let j : i < length (drop 4 t) / 2 = rw (length_records 2 (drop 4 t)) at k in
    get_d_map cell_of r i [] 0 k ∙ rw (record_of_lem 2 i (drop 4 t) j, u16_of 2 (drop 4 t) i 0 (omega arith), u16_drop, z)

-- one cell more scanned
module _ (t : List ℕ) (i s : ℕ) (h : i < length (cells t)) where
  cell_scanned : scan (drop i (cells t)) s ≡ scan (u16_at t (4 + 2 * i) ∷ drop (i + 1) (cells t)) s
  cell_scanned = rw (drop-cons (cells t) i 0 h, cell_at t i h, add-one)

  pub scan_zero : u16_at t (4 + 2 * i) ≡ 0 → scan (drop i (cells t)) s ≡ None
  unfolding scan
  scan_zero e = cell_scanned ∙ rw (eq-eqb (u16_at t (4 + 2 * i)) 0 e)

  pub scan_found : (u16_at t (4 + 2 * i) ≡ 0 → ⊥) → u16_at t (4 + 2 * i) % 128 ≡ s → scan (drop i (cells t)) s ≡ Some (u16_at t (4 + 2 * i) / 128)
  unfolding scan
  scan_found n e = cell_scanned ∙ rw (ne_eqb (u16_at t (4 + 2 * i)) 0 n, eq-eqb (u16_at t (4 + 2 * i) % 128) s e)

  pub scan_turn : (u16_at t (4 + 2 * i) ≡ 0 → ⊥) → (u16_at t (4 + 2 * i) % 128 ≡ s → ⊥) → scan (drop i (cells t)) s ≡ scan (drop (i + 1) (cells t)) s
  unfolding scan
  scan_turn n e = cell_scanned ∙ rw (ne_eqb (u16_at t (4 + 2 * i)) 0 n, ne_eqb (u16_at t (4 + 2 * i) % 128) s e)

pub scan_end : (t : List ℕ) (i s : ℕ) → length (cells t) ≤ i → scan (drop i (cells t)) s ≡ None
unfolding scan
scan_end t i s h = rw (drop_of_length-le (cells t) h)

-- the laws of a loop over the cells
pub ruleset scans = (length_cells, scan_zero, scan_found, scan_turn, scan_end)
