-- Seeking the end of a syllable from a place on: laws that nothing cites since split_inclusive cuts them off. Assumes nothing.
use Rattle.std.specs.Prelude.{ℕ, zero, suc, ◌+◌, ◌-◌, ◌≤◌, ◌<◌, ◌≡◌, ◌≢◌, Bool, true, false, not, List, [], ◌∷◌, eqb, length, get_or, take, drop}
use Rattle.std.proofs.Common.{not-suc-le-zero, le_of_suc-le-suc, ◌∙◌, eqb-true, eq-eqb, ne_eqb}
use native.Mathlib.Omega.{arith}
use Rattle.std.proofs.Math.ListN.{length-drop}
use Rattle.std.proofs.Math.Seq.{get_or-drop, drop-drop}
use Rattle.texts.specs.Choice.{cases}
use Rattle.texts.specs.Lists.{place, place_turn, place_stop, place_end}
use Rattle.utterance_spec.specs.Cuts.{grouped, Ended}
use Rattle.appending.specs.Laws.Grouped.{ends, span}

-- seeking the end of a syllable: a phone that ends none, one that does, and no more phones
pub span_turn : (ms : List ℕ) (i : ℕ) → i < length ms → get_or ms i 0 ≡ 0 → span (drop i ms) ≡ suc (span (drop (i + 1) ms))
unfolding span ends
span_turn ms i h z = let e = place_turn ends ms i 0 h (rw (eq-eqb (get_or ms i 0) 0 z)) in omega arith

pub span_stop : (ms : List ℕ) (i : ℕ) → i < length ms → get_or ms i 0 ≢ 0 → span (drop i ms) ≡ 1
unfolding span ends
span_stop ms i h n = let e = place_stop ends ms i 0 h (rw (ne_eqb (get_or ms i 0) 0 n)) in omega arith

pub span_end : (ms : List ℕ) (i : ℕ) → length ms ≤ i → span (drop i ms) ≡ 1
unfolding span
span_end ms i h = let e = place_end ends ms i h in omega arith
