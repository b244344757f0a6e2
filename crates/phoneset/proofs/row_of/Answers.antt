-- `phoneset::row_of` meets its contract: a row's text is its name, so the first row of that text is the phone's. Assumes nothing.
use Rattle.std.proofs.Common.{◌≡◌, Bool, rules, tests, sym, ◌∙◌, ℕ, List, ◌++◌, ◌-◌, length, map, get_or, take, drop, nat_eq}
use Rattle.std.proofs.Math.ListN.{replicate}
use Rattle.std.proofs.Math.Seq.{take-append_seam}
use Rattle.std.proofs.lemmas.List.{length-map}
use Rattle.std.proofs.lemmas.Iterator.{YieldsList-from_slice}
use Rattle.std.proofs.lemmas.Iterator.Search.{position_from_yields_List}
use Rattle.std.specs.Cmp.Lexicographic.{pointwise}
use Rattle.std.specs.List.{position}
use Rattle.texts.specs.Text.{same}
use Rattle.texts.specs.Laws.Library.{position_place, place_map, same_pointwise}
use Rattle.phoneset.specs.Phones.{Phone, phones, encoded, row_of}
use Rattle.phoneset.specs.Rules.{phone_count}
use Rattle.phoneset.proofs.row_of.Goals as goal

abbrev is_named : List ℕ → List ℕ → Bool
is_named x row = pointwise nat_eq (take (get_or row 0 0) (drop 1 row)) x

named : (x : List ℕ) (r : Phone) → is_named x (encoded r) ≡ same r.name x
unfolding encoded
named x r = rw (take-append_seam r.name (replicate (4 - length r.name) 0 ++ r.features)) (sym (same_pointwise r.name x))

pub returns : goal.returns
unfolding row_of
returns c =
    let x = c.args.phone.now in
    let e : c.position.result ≡ position (is_named x) (map encoded phones) =
    position_from_yields_List (is_named x) _ _ c.position.result c.position.ensures.ran
    (YieldsList-from_slice _ cc) (λ x b q k. search (rules, tests)) in
    let m = place_map (is_named x) encoded (λ (r : Phone). same r.name x) (named x) phones in
    position_place (is_named x) (map encoded phones) c.position.result (row_of x) 50 e m (length-map phones encoded ∙ phone_count)
