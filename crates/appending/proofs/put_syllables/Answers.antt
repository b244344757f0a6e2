-- `appending::put_syllables` meets its contract: the syllables left, put on the sheet as it is, give what all of them give. Assumes nothing.
use Rattle.std.proofs.Common.{rules, tests, arith, sym, ap, ◌∙◌, ◌+◌, length, ℕ, List, length-drop}
use Rattle.std.proofs.lemmas.List.Sorted.{answers_always}
use Rattle.std.specs.Slice.Iter.{split_inclusive_rest}
use Rattle.cells.specs.Cells.{phones_of, length_phones_of}
use Rattle.appending.specs.Laws.Grouped.{ends, Part, part}
use Rattle.appending.specs.Laws.Numbers.{Step, step}
use Rattle.appending.specs.Laws.Putting.{syllables_end, part_left, part_put}
use Rattle.appending.proofs.put_syllables.Goals as goal
use Rattle.appending.proofs.put_syllables.Goals.{In-Some}

passed : (c : In-Some) → Part c.args.cuts.now c.in-Some.marks.now (split_inclusive_rest c.next.new.self) c.loop-marks.invariant.left.0
unfolding ends
passed c =
    let s = c.in-Some.ensures.steps in
    let i = c.loop-marks.invariant.left in
    part c.args.cuts.now _ _ _ i.0 s.1.0 c.requires.1 i.1 s.0 s.1.1 (s.1.2 ends (answers_always _ _ _ (λ f a r g q. search (rules, tests)))).1 s.2

way : (c : In-Some) → let i = c.loop-marks.invariant.left.0 in Step c.args.cuts.now (phones_of c.args.phones.now) i (i + length c.in-Some.marks.now)
way c = let p = passed c in step c.args.cuts.now (phones_of c.args.phones.now) _ _ (c.requires.0 ∙ sym (length_phones_of c.args.phones.now)) p.more c.requires.1 p.end

pub put_syllable-requires : goal.put_syllable-requires
put_syllable-requires c =
    let w = way (goal.at.put_syllable-requires c).In-Some in
    let i = c.loop-marks.invariant.left in
    (omega (arith, c.split_at.ensures.front_len), omega arith)

pub overflow_cast-before : goal.overflow_cast-before
overflow_cast-before c = let w = way (goal.at.overflow_cast-before c).In-Some in let i = c.loop-marks.invariant.left in omega arith

pub overflow_add-before : goal.overflow_add-before
overflow_add-before c = let w = way (goal.at.overflow_add-before c).In-Some in let i = c.loop-marks.invariant.left in omega arith

pub overflow_add-k-in-loop-marks : goal.overflow_add-k-in-loop-marks
overflow_add-k-in-loop-marks c = let w = way (goal.at.overflow_add-k-in-loop-marks c).In-Some in let i = c.loop-marks.invariant.left in omega arith

pub loop-marks-preserved : goal.loop-marks-preserved
loop-marks-preserved c =
    let a = c.args in
    let goes = c.in-Some.ensures.goes.on c.loop-marks.invariant.finite in
    let i = c.loop-marks.invariant.left in
    let m : ℕ = length c.in-Some.marks.now in
    let p = passed (goal.at.loop-marks-preserved c).In-Some in
    let w = way (goal.at.loop-marks-preserved c).In-Some in
    let s = c.split_at.ensures in
    let t = part_put a.cuts.now _ _ a.phones.now _ _ _ i.0 c.requires.0 c.requires.1 p i.3 s.front s.back c.loop-marks.sheet a.w c.loop-marks.before c.loop-marks.k in
    record {
      callable = goes.0;
      finite = goes.1;
      left = (i.0 + m, p.behind, p.fits, part_left a.cuts.now _ _ _ _ _ _ _ c.requires.0 c.requires.1 p i.3 s.front s.back, i.4 ∙ t ∙ rw c.put_syllable.ensures, omega arith);
      sheet = c.put_syllable.auto.sheet ∙ c.loop-marks.invariant.sheet;
    }

pub returns : goal.returns
returns c =
    let a = c.args in
    let i = c.loop-marks.invariant.left in
    let d = c.in-None.ensures.steps in
    let r = ap (λ (l : List ℕ). length l) i.1 ∙ length-drop i.0 a.cuts.now in
    sym (i.4 ∙ syllables_end c.loop-marks.sheet a.cuts.now (phones_of a.phones.now) i.0 a.w c.loop-marks.before c.loop-marks.k (omega (arith, d.0, r)))
