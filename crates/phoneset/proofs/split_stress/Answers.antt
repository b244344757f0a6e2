-- `phoneset::split_stress` meets its contract: the last byte is a stress of the version or not. Assumes nothing.
use Rattle.std.proofs.Common.{◌≡◌, true, sym, ◌∙◌, arith}
use Rattle.versions.specs.Versions.{digits}
use Rattle.phoneset.specs.Stress.{last_of, is_stressed, stress_taken, stress_left, stressed_by, empty_unstressed}
use Rattle.phoneset.proofs.split_stress.Goals as goal

pub returns-in-Some : goal.returns-in-Some
returns-in-Some c =
    let a = c.args in
    let h = c.in-Some.ensures.cases in
    let l = last_of a.phone.now c.in-Some.front.now c.in-Some.field-0-0.now h.0 in
    let s : is_stressed (digits a.version) a.phone.now ≡ true =
    stressed_by a.version a.phone.now ∙ rw l (sym c.is_stress.ensures ∙ c.if-is_stress.true) in
    let t = stress_taken (digits a.version) a.phone.now s in
    (omega arith, sym l ∙ t.1)

pub returns-in_default : goal.returns-in_default
returns-in_default c =
    let a = c.args in
    let h = c.in-Some.ensures.cases in
    let l = last_of a.phone.now c.in-Some.front.now c.in-Some.field-0-0.now h.0 in
    stress_left (digits a.version) a.phone.now (stressed_by a.version a.phone.now ∙ rw l (sym c.is_stress.ensures ∙ c.if-is_stress.false))

pub returns-in_default-2 : goal.returns-in_default-2
returns-in_default-2 c =
    let a = c.args in
    let h = rw c.in_default.is at c.split_last.ensures.cases in
    stress_left (digits a.version) a.phone.now (empty_unstressed a.version a.phone.now h)
