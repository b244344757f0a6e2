-- `addenda::find` meets its contract: a word ruled out has no row; else the first row that is meant is the place. Assumes nothing.
use Rattle.std.proofs.Common.{◌≡◌, rules, tests, ◌∙◌, map}
use Rattle.std.proofs.lemmas.List.{length-map}
use Rattle.std.proofs.lemmas.Iterator.{YieldsList-from_slice}
use Rattle.std.proofs.lemmas.Iterator.Search.{position_from_yields_List}
use Rattle.std.specs.List.{position}
use Rattle.texts.specs.Lists.{place}
use Rattle.texts.specs.Laws.Library.{position_place, place_map}
use Rattle.addenda.specs.Addenda.{addenda, encoded}
use Rattle.addenda.specs.Find.{is_meant}
use Rattle.addenda.specs.Rules.{addenda_count}
use Rattle.addenda.specs.Laws.Rows.{is_meant_by, encoded_meant}
use Rattle.addenda.specs.Laws.Starts.{no_start}
use Rattle.addenda.proofs.find.Goals as goal

pub returns-then-not-may_be_row : goal.returns-then-not-may_be_row
returns-then-not-may_be_row c =
    let a = c.args in
    let h = c.may_be_row.ensures (cc) in
    no_start a.word.now a.tag (rw c.byte_at.ensures at h)

pub returns : goal.returns
returns c =
    let a = c.args in
    let test = is_meant_by a.word.now a.tag in
    let m = place_map test encoded (is_meant a.word.now a.tag) (encoded_meant a.word.now a.tag) addenda in
    let e : c.position.result ≡ position test (map encoded addenda) =
    position_from_yields_List test _ _ c.position.result c.position.ensures.ran
    (YieldsList-from_slice _ cc) (λ x b q k. search (rules, tests)) in
    position_place test (map encoded addenda) c.position.result
    (place (is_meant a.word.now a.tag) addenda) 42 e m (length-map addenda encoded ∙ addenda_count)
