-- `lts::Trees::spell` meets its contract: the loop goes leftwards over the padded word, and stops behind its last "#". Assumes nothing.
use Rattle.std.proofs.Common.{ℕ, ◌≡◌, ◌+◌, ◌-◌, arith, refl, sym, ap, true, false, List, length, get_or}
use borrow.Author.Tests.{eq-eqb, ne_eqb}
use Rattle.texts.specs.Text.{is}
use Rattle.lts_spec.specs.Letters.{padded, letters}
use Rattle.lts.proofs.Stopping.{left_start, left_end, left_stop, left_turn}
use Rattle.lts.proofs.Leftwards.{padded_length, spelling_start, spelling_end, spelling_stop, spelling_damaged, spelling_turn}
use Rattle.lts.proofs.Trees.spell.Goals as goal

pub slice_bounds-text-end : goal.slice_bounds-text-end
slice_bounds-text-end c = rw c.padded-room.ensures (sym (padded_length c.args.word.now))

pub loop-i-init : goal.loop-i-init
loop-i-init c =
    let a = c.args in
    let t = a.self.now in
    let e : _ ≡ padded a.word.now = c.padded-room.ensures in
    (e, refl, left_start a.word.now, spelling_start t.table.bytes.now t.index.now t.model.now _ a.list.now (length a.word.now) (omega arith))

pub bounds-text-k : goal.bounds-text-k
bounds-text-k c =
    let l = c.loop-i in
    let t = ap (λ (x : List ℕ). length x) l.invariant.0 in
    omega (arith, t, padded_length c.args.word.now)

pub returns-then-text-k-eq35 : goal.returns-then-text-k-eq35
unfolding letters is
returns-then-text-k-eq35 c =
    let l = c.loop-i in
    let a = c.args in
    let t = a.self.now in
    let k : l.i - 1 + 4 ≡ l.i + 3 = omega arith in
    let s : l.i - 1 + 1 ≡ l.i = omega arith in
    let b = rw k at c.if-text-k-eq35.true in
    let h : is 35 (get_or (padded a.word.now) (l.i + 3) 0) ≡ true = rw (← l.invariant.0) (eq-eqb _ 35 b) in
    rw (s, left_stop a.word.now l.i l.invariant.2 (omega arith) (omega arith) h, ← l.invariant.0)
    (spelling_stop t.table.bytes.now t.index.now t.model.now _ a.list.now l.list (length a.word.now) l.i l.first l.invariant.3
    l.i (omega arith) (eq-eqb _ 35 b))

pub returns : goal.returns
unfolding letters
returns c =
    let l = c.loop-i in
    let a = c.args in
    let t = a.self.now in
    let z : 0 ≡ l.i = omega arith in
    rw (left_end a.word.now l.i l.invariant.2 (omega arith), ← l.invariant.0, z)
    (spelling_end t.table.bytes.now t.index.now t.model.now _ a.list.now l.list (length a.word.now) l.i l.first l.invariant.3 l.i (omega arith))

pub loop-i-preserved : goal.loop-i-preserved
unfolding is
loop-i-preserved c =
    let l = c.loop-i in
    let a = c.args in
    let t = a.self.now in
    let p = c.put_letter in
    let k : l.i - 1 + 4 ≡ l.i + 3 = omega arith in
    let b = rw k at c.if-text-k-eq35.false in
    let h : is 35 (get_or (padded a.word.now) (l.i + 3) 0) ≡ false = rw (← l.invariant.0) (ne_eqb _ 35 b) in (
      l.invariant.0,
      omega (arith, p.auto.list),
      left_turn a.word.now l.i l.invariant.2 (omega arith) (omega arith) h,
      spelling_turn t.table.bytes.now t.index.now t.model.now _ a.list.now l.list (length a.word.now) l.i l.first l.invariant.3
          (omega arith) (ne_eqb _ 35 b) p.new.list p.result c.in_ok-first.first (rw k at p.ensures) c.in_ok-first.was,
    )

pub returns-in_err-first : goal.returns-in_err-first
unfolding letters is
returns-in_err-first c =
    let l = c.loop-i in
    let a = c.args in
    let t = a.self.now in
    let p = c.put_letter in
    let k : l.i - 1 + 4 ≡ l.i + 3 = omega arith in
    let b = rw k at c.if-text-k-eq35.false in
    rw (← l.invariant.0, c.from_residual.ensures)
    (spelling_damaged t.table.bytes.now t.index.now t.model.now _ a.list.now l.list (length a.word.now) l.i l.first l.invariant.3
    (omega arith) (ne_eqb _ 35 b) p.new.list p.result _ (rw k at p.ensures) c.in_err-first.was)
