-- `syllabify::mark` meets its contract: the marks written and the marks of the phones left are all the marks. Assumes nothing.
use Rattle.std.proofs.Common.{arith, ◌≡◌, ◌+◌, ◌*◌, ◌++◌, ◌||◌, ◌<◌, ◌≤◌, false, [], refl, List, ℕ, ap, ◌∙◌, length, take, drop, get_or}
use Rattle.texts.specs.Choice.{when◌then◌else◌, bit, cases}
use Rattle.records.specs.Records.{part_from}
use Rattle.cells.specs.Cells.{phones_of, length_phones_of, phones_from}
use Rattle.phoneset.specs.Phones.{is_vowel}
use Rattle.onsets.specs.Onsets.{onsets}
use Rattle.syllabify.specs.Syllables.{cut}
use Rattle.syllabify.proofs.Syllables.{marks_turn, marks_end}
use Rattle.syllabify.proofs.Written.{written_more, untouched_more, written_all}
use Rattle.syllabify.proofs.mark.Goals.{then-seen, else-seen, then-seen-2, else-seen-2}
use Rattle.syllabify.proofs.mark.Goals as goal

pub loop-i-preserved : goal.loop-i-preserved
loop-i-preserved c =
    let l = c.loop-i in
    let b = c.args.phones.now in
    let ps = phones_of b in
    let h : l.i < length ps = rw length_phones_of (omega arith) in
    let s = c.if-seen.seen in
    let m = c.cut_before-cut.result in
    let es : s ≡ (l.seen || is_vowel (get_or ps l.i [])) =
    elim c.if-seen.branch [
      | then-seen w ↦ w.seen-is ∙ rw w.if-seen.true refl
      | else-seen w ↦ w.seen-is ∙ rw w.if-seen.false (w.is_vowel-seen.ensures ∙ ap is_vowel w.phone.ensures)
    ] in
    let em : m ≡ cut onsets s (drop (l.i + 1) ps) =
    c.cut_before-cut.ensures
    ∙ ap (λ (s : List ℕ). cut onsets c.if-seen.seen (phones_of s)) (part_from (16 * (l.i + 1)) b)
    ∙ ap (λ (s : List (List ℕ)). cut onsets c.if-seen.seen s) (phones_from b (l.i + 1) (omega arith)) in
    let es2 : c.if-seen-2.seen ≡ (when m then false else s) =
    elim c.if-seen-2.branch [
      | then-seen-2 w ↦ w.seen-is ∙ rw w.if-seen-2.true (cases m (λ e. rw e refl) (λ e. rw e refl))
      | else-seen-2 w ↦ w.seen-is ∙ rw w.if-seen-2.false (cases m (λ e. rw e refl) (λ e. rw e refl))
    ] in
    let bt : c.from.result ≡ bit m = c.from.ensures ∙ cases m (λ e. rw e refl) (λ e. rw e refl) in
    let t = marks_turn onsets l.seen ps l.i h s m es em in (
      rw (bt, es2) (written_more _ l.marks l.marks l.i _ _ (omega arith) (l.invariant.0 ∙ ap (λ (m : List ℕ). take l.i l.marks ++ m) t)),
      untouched_more [] l.marks c.args.marks.now l.i c.from.result l.invariant.1,
    )

pub returns : goal.returns
returns c =
    let l = c.loop-i in
    let ps = phones_of c.args.phones.now in
    let e : l.i ≡ length ps = rw length_phones_of (omega arith) in
    let h : length ps ≤ l.i = omega arith in
    rw (← e) (written_all _ l.marks c.args.marks.now l.i (l.invariant.0 ∙ ap (λ (m : List ℕ). take l.i l.marks ++ m) (marks_end onsets l.seen ps l.i h)) l.invariant.1)
