-- `addtext::add_lines` meets its contract: the lines passed are in the store, and those left decide. Assumes nothing.
use Rattle.std.proofs.Common.{arith, ◌≡◌, ◌≤◌, ℕ, ◌+◌, Bool, true, List, ◌∷◌, Ok, refl, sym, ap, ◌∙◌}
use Rattle.std.specs.Iterator.Adapters.{enumerate_source, enumerate_count}
use Rattle.texts.specs.Choice.{bit, both_true, cases}
use Rattle.texts.specs.Lists.{every}
use Rattle.texts.specs.Text.{ascii}
use Rattle.lines.specs.Lines.{lines}
use Rattle.lines.specs.Left.{lines_left}
use Rattle.lines.specs.Laws.Ascii.{ascii_lines}
use Rattle.store_spec.specs.Store.{is_sound}
use Rattle.store_spec.proofs.Sound.{sound, is_sound_lem}
use Rattle.addtext_spec.specs.Line.{read_line, behind_line}
use Rattle.addtext_spec.specs.Filling.{Filled, onward, filled}
use Rattle.addtext_spec.proofs.Laws.Turns.{filled_turn, filled_end}
use Rattle.addtext_spec.proofs.Grown.{low_line, line_sound}
use Rattle.addtext.proofs.add_lines.Goals as goal

-- behind a line that was taken or skipped
onward_ok : (n k : ℕ) (s : List ℕ) (go : ℕ → Filled) (b : Bool) → onward n k s go (Ok b) ≡ go (k + bit b)
unfolding onward
onward_ok n k s go b = cases b (λ e. rw e refl) (λ e. rw e (ap go (omega arith)))

bit_few : (b : Bool) → bit b ≤ 1
bit_few b = cases b (λ e. rw e (omega arith)) (λ e. rw e (omega arith))

pub loop-i-init : goal.loop-i-init
loop-i-init c =
    let g = c.into_iter-i-iterator.ensures.into_iter_gives in
    let e : lines_left (enumerate_source c.into_iter-i-iterator.result) ≡ lines c.args.text.now =
    ap (λ s. lines_left (enumerate_source s)) g ∙ ap lines_left c.enumerate-i-items.ensures.source ∙ c.of.ensures in
    let z : enumerate_count c.into_iter-i-iterator.result ≡ 0 = ap enumerate_count g ∙ c.enumerate-i-items.ensures.count in
    (omega arith, c.requires.1, refl, rw e (ascii_lines c.args.text.now c.requires.2), rw (z, e) refl)

pub loop-i-preserved : goal.loop-i-preserved
unfolding every
loop-i-preserved c =
    let l = c.loop-i in
    let t = c.args.table.now in
    let p = c.in-Some.ensures.steps in
    let n = enumerate_count l.i-iterator + 1 in
    let x = c.in-Some.line.now in
    let rest = lines_left (enumerate_source c.next.new.self) in
    let s = c.take_line.new.store in
    let a : every ascii (x ∷ rest) ≡ true = rw p.0 at l.invariant.3 in
    let b = both_true (ascii x) (every ascii rest) a in
    let k : c.from-taken.result ≡ bit c.in-Ok.added = c.from-taken.ensures ∙ cases c.in-Ok.added (λ e. rw e refl) (λ e. rw e refl) in
    let turned = l.invariant.4 ∙ ap (filled t l.store n l.taken) p.0 ∙ filled_turn t l.store n l.taken x rest s c.take_line.ensures.store_after c.take_line.result c.take_line.ensures.value in
    let z = is_sound_lem (behind_line t l.store (read_line x)) (line_sound t l.store (read_line x) c.requires.0 (sound l.store l.invariant.1) (low_line x b.0)) in
    let f = bit_few c.in-Ok.added in
    let go : ℕ → Filled = λ m. filled t s (n + 1) m rest in (
      omega (arith, p.2, l.invariant.0),
      ap is_sound c.take_line.ensures.store_after ∙ z,
      c.take_line.auto.store ∙ l.invariant.2,
      b.1,
      turned ∙ ap (onward n l.taken s go) c.in-Ok.is ∙ onward_ok n l.taken s go c.in-Ok.added ∙ rw (p.2, k) refl,
    )

pub returns-in-Err : goal.returns-in-Err
unfolding onward
returns-in-Err c =
    let l = c.loop-i in
    let t = c.args.table.now in
    let p = c.in-Some.ensures.steps in
    let n = enumerate_count l.i-iterator + 1 in
    let s = c.take_line.new.store in
    let rest = lines_left (enumerate_source c.next.new.self) in
    let go : ℕ → Filled = λ m. filled t s (n + 1) m rest in
    let turned = l.invariant.4 ∙ ap (filled t l.store n l.taken) p.0 ∙ filled_turn t l.store n l.taken c.in-Some.line.now rest s c.take_line.ensures.store_after c.take_line.result c.take_line.ensures.value in
    let e = turned ∙ ap (onward n l.taken s go) c.in-Err.is in
    record { result_value = rw p.1 (sym (ap (λ (f : Filled). f.answer) e)); store_after = sym (ap (λ (f : Filled). f.store) e) }

pub returns : goal.returns
returns c =
    let l = c.loop-i in
    let n = enumerate_count l.i-iterator + 1 in
    let e = l.invariant.4 ∙ ap (filled c.args.table.now l.store n l.taken) c.in-None.ensures.steps.0.0 ∙ filled_end c.args.table.now l.store n l.taken in
    record { result_value = sym (ap (λ (f : Filled). f.answer) e); store_after = sym (ap (λ (f : Filled). f.store) e) }
