-- `data::is_listed` meets its contract: of the strings passed none is the phone, so those from the reader's position on, all of which fit, decide. Assumes nothing.
use Rattle.std.proofs.Common.{◌≡◌, ◌<◌, ◌-◌, ◌+◌, arith, sym, ap, ◌∙◌, drop}
use Rattle.records.specs.Fields.{u32_at}
use Rattle.data.specs.Sections.{table_phones, is_listed, listed_here, listed_behind, listed_end}
use Rattle.data.specs.Places.{table_fit, first_fits, fit_turn}
use Rattle.reader.specs.Reader.{text_taken, text_fits}
use Rattle.data.proofs.is_listed.Goals as goal

pub loop-init : goal.loop-init
unfolding is_listed table_phones
loop-init c =
    let s = c.args.s.now in
    let b : c.moved-strings.result.bytes.now ≡ s = cc in
    let at : c.moved-strings.result.pos ≡ 4 = cc in
    let n : c.table_count-end.result - 0 ≡ u32_at s 0 = omega (arith, c.table_count-end.ensures.0) in
    (b, rw (n, at) (table_fit s c.requires), rw (n, at))

pub unwrap-text-requires : goal.unwrap-text-requires
unwrap-text-requires c =
    let l = c.loop in
    let s = c.args.s.now in
    let f = first_fits s l.strings.pos (c.table_count-end.result - l.counter) (omega arith) l.invariant.1 in
    text_fits s l.strings.pos c.read_string.result _ (rw l.invariant.0 at c.read_string.ensures.taken) f

pub returns-then-same : goal.returns-then-same
returns-then-same c =
    let l = c.loop in
    let a = c.args in
    let t = text_taken a.s.now l.strings.pos (rw (l.invariant.0, c.unwrap-text.ensures) at c.read_string.ensures.taken) in
    let e = rw (t.is) at c.same.ensures in
    sym (l.invariant.2 ∙ listed_here a.s.now l.strings.pos (c.table_count-end.result - l.counter) (omega arith) a.phone.now (sym e ∙ c.if-same.true))

pub loop-preserved : goal.loop-preserved
loop-preserved c =
    let l = c.loop in
    let a = c.args in
    let s = a.s.now in
    let left = c.table_count-end.result - l.counter in
    let k : 0 < left = omega arith in
    let n : c.table_count-end.result - (l.counter + 1) ≡ left - 1 = omega arith in
    let t = text_taken s l.strings.pos (rw (l.invariant.0, c.unwrap-text.ensures) at c.read_string.ensures.taken) in
    let e = rw (t.is) at c.same.ensures in (
      ap (λ r. r.now) c.read_string.ensures.bytes ∙ l.invariant.0,
      rw (n, t.stands) (sym (fit_turn s l.strings.pos left k t.fit) ∙ l.invariant.1),
      rw (n, t.stands) (l.invariant.2 ∙ listed_behind s l.strings.pos left k a.phone.now (sym e ∙ c.if-same.false)),
    )

pub returns : goal.returns
returns c =
    let l = c.loop in
    let a = c.args in
    sym (l.invariant.2 ∙ listed_end a.phone.now (drop l.strings.pos a.s.now) (c.table_count-end.result - l.counter) (omega arith))
