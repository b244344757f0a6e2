-- `appending::put_phones` meets its contract: the phones left, put on the sheet as it is, give what all of them give. Assumes nothing.
use Rattle.std.proofs.Common.{arith, refl, sym, ap, ◌∙◌, ◌≡◌, ◌+◌, ◌-◌, length, take, drop, ◌/◌, List, ℕ, take_all}
use Rattle.cells.specs.Cells.{phones_of, length_phones_of, phone_fits_lem}
use Rattle.appending.specs.Laws.Putting.{phones_turn, phones_end}
use Rattle.appending.proofs.put_phones.Goals as goal

pub loop-j-init : goal.loop-j-init
loop-j-init c =
    let ps = phones_of c.args.phones.now in
    let n = length c.args.phones.now / 16 in
    let l = length_phones_of c.args.phones.now in
    let z : n - 0 ≡ n = omega arith in
    record { items = rw (z, take_all n ps (omega arith)); number = omega arith; sheet = refl }

pub put_phone-requires : goal.put_phone-requires
put_phone-requires c =
    let f = phone_fits_lem c.args.phones.now c.loop-j.j (omega arith) in
    let e = ap (λ (l : List ℕ). length l) c.phone-text.ensures in
    (omega arith, omega arith, omega arith)

pub loop-j-preserved : goal.loop-j-preserved
loop-j-preserved c =
    let a = c.args in
    let i = c.loop-j.invariant in
    let l = length_phones_of a.phones.now in
    let t = phones_turn c.loop-j.sheet a.y c.loop-j.before a.a (c.loop-j.n + 1) c.loop-j.j (length a.phones.now / 16) (phones_of a.phones.now) (omega arith) (omega arith) in
    record { items = i.items ∙ t ∙ rw (c.put_phone.ensures, c.phone-text.ensures); number = omega arith; sheet = c.put_phone.auto.sheet ∙ i.sheet }

pub returns : goal.returns
returns c =
    let a = c.args in
    let i = c.loop-j.invariant in
    let n = length a.phones.now / 16 in
    sym (i.items ∙ phones_end c.loop-j.sheet a.y c.loop-j.before a.a (c.loop-j.n + 1) c.loop-j.j n (take (n - c.loop-j.j) (drop c.loop-j.j (phones_of a.phones.now))) (omega arith))
