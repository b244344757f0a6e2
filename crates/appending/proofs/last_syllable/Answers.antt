-- `appending::last_syllable` meets its contract: the last of all is the last of the syllables left, behind the one passed. Assumes nothing.
use Rattle.std.proofs.Common.{rules, tests, arith, sym, ap, ◌∙◌, ◌≡◌, ◌+◌, ◌-◌, length, ℕ, List, length-drop}
use Rattle.std.proofs.lemmas.List.Sorted.{answers_always}
use Rattle.std.specs.Slice.Iter.{split_inclusive_rest}
use Rattle.records.specs.Chain.{end_of}
use Rattle.utterance_spec.specs.Append.{numbered}
use Rattle.appending.specs.Laws.Grouped.{ends, Part, part}
use Rattle.appending.specs.Laws.Numbers.{last_turn, grouped_end}
use Rattle.appending.proofs.last_syllable.Goals as goal

passed : (c : goal.In-Some) → Part c.args.cuts.now c.in-Some.marks.now (split_inclusive_rest c.next.new.self) c.loop-marks.invariant.left.0
unfolding ends
passed c =
    let s = c.in-Some.ensures.steps in
    let i = c.loop-marks.invariant.left in
    part c.args.cuts.now _ _ _ i.0 s.1.0 c.requires.0 i.1 s.0 s.1.1 (s.1.2 ends (answers_always _ _ _ (λ f a r g q. search (rules, tests)))).1 s.2

pub overflow_cast-n : goal.overflow_cast-n
overflow_cast-n c = let w = passed c in let i = c.loop-marks.invariant.left in omega arith

pub overflow_add-n : goal.overflow_add-n
overflow_add-n c = let w = passed c in let i = c.loop-marks.invariant.left in omega arith

pub overflow_add-n-in-loop-marks : goal.overflow_add-n-in-loop-marks
overflow_add-n-in-loop-marks c = let w = passed c in let i = c.loop-marks.invariant.left in omega arith

pub loop-marks-preserved : goal.loop-marks-preserved
loop-marks-preserved c =
    let cuts = c.args.cuts.now in
    let w = passed c in
    let goes = c.in-Some.ensures.goes.on c.loop-marks.invariant.finite in
    let i = c.loop-marks.invariant.left in
    let n = c.loop-marks.n in
    let m : ℕ = length c.in-Some.marks.now in
    let f : n + 1 + (i.0 + m - i.0) ≡ n + (1 + m) = omega arith in
    record {
      callable = goes.0;
      finite = goes.1;
      left = (i.0 + m, w.behind, w.fits, omega arith, λ ps l. i.4 ps l ∙ last_turn cuts ps i.0 (i.0 + m) l w.more c.requires.0 w.end c.loop-marks.y n ∙ rw f);
    }

pub returns : goal.returns
unfolding end_of numbered
returns c =
    let i = c.loop-marks.invariant.left in
    let d = c.in-None.ensures.steps in
    let r = ap (λ (l : List ℕ). length l) i.1 ∙ length-drop i.0 c.args.cuts.now in
    λ ps l. sym (i.4 ps l ∙ rw (grouped_end c.args.cuts.now ps i.0 (omega (arith, d.0, r))))
