-- `compiled::Lexicon::tagged` meets its contract: the entries passed have other tags, so the run from i on decides. Assumes nothing.
use Rattle.std.proofs.Common.{◌≡◌, ◌-◌, ℕ}
use Rattle.compiled_spec.specs.Search.{tagged}
use Rattle.compiled.proofs.sections.Lexicon.tagged.Given as goal

abbrev pub invariant-loop-i : goal.invariant-loop-i
invariant-loop-i l =
    let run = λ (n i : ℕ). tagged l.self.index.now l.self.entries.now l.word l.tag l.lo n i in
    run (l.i-end - l.lo) l.lo ≡ run (l.i-end - l.i) l.i
