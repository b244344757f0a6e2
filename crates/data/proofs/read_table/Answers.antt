-- `data::read_table` meets its contract: the strings passed fit and their places are written, so those left decide, and then the bytes of all. Assumes nothing.
use Rattle.std.proofs.Common.{◌≡◌, ℕ, ◌+◌, ◌-◌, ◌<◌, arith, refl, sym, ap, ◌∙◌, ◌++◌, length, take, drop, length-append, length-drop}
use Rattle.std.proofs.lemmas.List.{take-append-le}
use Rattle.std.proofs.Math.Seq.{length-take-le}
use borrow.Author.Tests.{le-leb, lt-leb}
use Rattle.records.specs.Fields.{u32_at}
use Rattle.texts.specs.Choice.{never}
use Rattle.data.specs.Sections.{is_phone_table}
use Rattle.data.specs.Places.{places as places_of, Placed, fit_stop, fit_turn, end_turn, fit_end, good_fit, places_turn, places_end}
use Rattle.reader.specs.Reader.{number_taken, number_broken, text_broken, text_passed, string_fits}
use Rattle.data.proofs.read_table.Goals as goal

pub returns-in_default : goal.returns-in_default
unfolding is_phone_table
returns-in_default c =
    let s = c.args.s.now in
    let new : c.new-strings.result.bytes.now ≡ s = cc in
    let t = rw (new, c.new-strings.ensures.1) at c.in_default.ensures.taken in
    let e = lt-leb 4 (length s) (number_broken s 0 refl t.0) in
    record { value = rw e; placed = λ h. never (is_phone_table s) h (rw e) }

pub returns-then-n-gt256 : goal.returns-then-n-gt256
unfolding is_phone_table
returns-then-n-gt256 c =
    let s = c.args.s.now in
    let new : c.new-strings.result.bytes.now ≡ s = cc in
    let r = number_taken s 0 refl (rw (new, c.new-strings.ensures.1) at c.in-Some.ensures.taken) in
    let e = le-leb 4 (length s) r.inside in
    let f = lt-leb (u32_at s 0) 256 (omega arith) in
    record { value = rw (e, f); placed = λ h. never (is_phone_table s) h (rw (e, f)) }

pub loop-place-init : goal.loop-place-init
unfolding is_phone_table
loop-place-init c =
    let s = c.args.s.now in
    let n = c.in-Some.n in
    let new : c.new-strings.result.bytes.now ≡ s = cc in
    let r = number_taken s 0 refl (rw (new, c.new-strings.ensures.1) at c.in-Some.ensures.taken) in
    let z : n ≡ n - 0 = omega arith in (
      ap (λ r. r.now) c.in-Some.ensures.bytes ∙ new,
      omega (arith, r.stands),
      omega (arith, r.stands, r.inside),
      omega (arith, r.stands),
      rw (← z, r.is, r.stands, le-leb 4 (length s) r.inside, le-leb (u32_at s 0) 256 (omega arith)) (good_fit (u32_at s 0) s 4),
      rw r.stands (ap (λ (k : ℕ). places_of k s 4) z),
    )

pub returns-then-is_none : goal.returns-then-is_none
returns-then-is_none c =
    let l = c.loop-place in
    let s = c.args.s.now in
    let r = rw l.invariant.0 at c.read_string.ensures.taken in
    let size = length-take-le c.in-Some.n c.args.places.now (omega arith) in
    let b = text_broken s l.strings.pos c.read_string.result _ r c.if-is_none.ensures in
    let e = fit_stop s l.strings.pos (c.in-Some.n - l.place-index) (omega arith) b in
    record { value = rw (l.invariant.4, e); placed = λ h. never (is_phone_table s) h (rw (l.invariant.4, e)) }

pub loop-place-preserved : goal.loop-place-preserved
loop-place-preserved c =
    let l = c.loop-place in
    let s = c.args.s.now in
    let n = c.in-Some.n in
    let i = l.place-index in
    let r = text_passed s l.strings.pos c.read_string.result _ (rw l.invariant.0 at c.read_string.ensures.taken) c.if-is_none.ensures in
    let size = length-take-le n c.args.places.now (omega arith) in
    let f = string_fits s l.strings.pos r.fit in
    let k : n - (i + 1) ≡ n - i - 1 = omega arith in
    let more : 0 < n - i = omega arith in (
      ap (λ r. r.now) c.read_string.ensures.bytes ∙ l.invariant.0,
      omega (arith, r.stands, l.invariant.1),
      r.inside,
      omega (arith, r.stands, f.short, l.invariant.3),
      l.invariant.4 ∙ rw (fit_turn s l.strings.pos (n - i) more r.fit, end_turn s l.strings.pos (n - i) more, k, r.stands),
      (let t = places_turn s l.place-items n i l.strings.pos (omega arith) (omega arith) l.invariant.5 in let to = r.stands in cc),
    )

pub returns : goal.returns
unfolding Placed
returns c =
    let l = c.loop-place in
    let s = c.args.s.now in
    let ps = c.args.places.now in
    let n = c.in-Some.n in
    let new : c.new-strings.result.bytes.now ≡ s = cc in
    let r = number_taken s 0 refl (rw (new, c.new-strings.ensures.1) at c.in-Some.ensures.taken) in
    let size = length-take-le n ps (omega arith) in
    let done : n ≡ l.place-index = omega arith in
    let e = fit_end s l.strings.pos (n - l.place-index) (omega arith) in
    let front : take n (l.place-items ++ drop n ps) ≡ take n l.place-items = take-append-le n l.place-items (drop n ps) (omega arith) in
    record {
      value = c.is_ascii.ensures ∙ rw c.position.ensures (sym (l.invariant.4 ∙ rw (e.0, e.1)));
      placed = λ _. (omega (arith, length-append l.place-items (drop n ps), length-drop n ps), rw (← r.is) (front ∙ places_end s l.place-items n l.place-index l.strings.pos done l.invariant.5));
    }
