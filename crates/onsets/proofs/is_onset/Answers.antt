-- `onsets::is_onset` meets its contract: a row's text is the onset. Assumes nothing.
use Rattle.std.proofs.Common.{◌≡◌, Bool, arith, refl, rules, tests, sym, ◌∙◌, ℕ, List, [], ◌-◌, length, map, get_or, take, drop, nat_eq}
use Rattle.std.proofs.Math.ListN.{replicate}
use Rattle.std.proofs.Math.Seq.{take-append_seam}
use Rattle.std.proofs.lemmas.Iterator.{YieldsList-from_range}
use Rattle.std.proofs.lemmas.Iterator.Search.{any_from_yields_List}
use Rattle.std.specs.Cmp.Lexicographic.{pointwise}
use Rattle.std.specs.List.{list_any, range_with_len}
use Rattle.texts.specs.Text.{same}
use Rattle.texts.specs.Laws.Library.{some_list_any, some_map, same_pointwise}
use Rattle.onsets.specs.Onsets.{onsets, encoded, is_onset}
use Rattle.onsets.proofs.is_onset.Goals as goal

abbrev is_row : List ℕ → List ℕ → Bool
is_row x row = pointwise nat_eq (take (get_or row 0 0) (drop 1 row)) x

rowed : (x r : List ℕ) → is_row x (encoded r) ≡ same r x
unfolding encoded
rowed x r = rw (take-append_seam r (replicate (3 - length r) 0)) (sym (same_pointwise r x))

-- the numbers of the rows give the rows in order
numbered : (x : List ℕ) → list_any (λ (n : ℕ). is_row x (encoded (get_or onsets n []))) (range_with_len 0 63) ≡ list_any (is_row x) (map encoded onsets)
unfolding onsets
numbered x = refl

pub returns : goal.returns
unfolding is_onset
returns c =
    let x = c.args.text.now in
    any_from_yields_List (λ (n : ℕ). is_row x (encoded (get_or onsets n []))) _ _ c.any.result c.any.ensures.ran
    (YieldsList-from_range 0 63 63 refl (omega arith)) (λ n b q k. search (rules, tests)) ∙ numbered x
    ∙ sym (some_list_any (is_row x) (map encoded onsets)) ∙ some_map (is_row x) encoded (λ (r : List ℕ). same r x) (rowed x) onsets
