-- `compiled::Lexicon::search` meets its contract: the search so far leaves the search between lo and hi. Assumes nothing.
use Rattle.std.proofs.Common.{◌≡◌, ◌-◌, ◌≤◌, ℕ}
use Rattle.compiled_spec.specs.Search.{search as searched}
use Rattle.compiled.proofs.sections.Lexicon.search.Given as goal

abbrev pub invariant-loop-lo : goal.invariant-loop-lo
invariant-loop-lo l =
    let between = λ (n lo hi : ℕ). searched l.self.index.now l.self.entries.now l.word n lo hi in
    (l.lo ≤ l.hi) × (l.hi ≤ l.initial.hi) × (between l.initial.hi 0 l.initial.hi ≡ between (l.hi - l.lo) l.lo l.hi)

abbrev pub decreases-loop-lo : goal.decreases-loop-lo
decreases-loop-lo l = l.hi - l.lo
