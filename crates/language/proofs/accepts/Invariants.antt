-- `language::accepts` meets its contract: the letters passed were no vowels, so the letters left decide. Assumes nothing.
use Rattle.std.proofs.Common.{ℕ, List}
use Rattle.std.specs.Iterator.{AlwaysYields}
use Rattle.language.specs.Machine.{cells, accepts}
use Rattle.language.proofs.Walk.{Walk}
use Rattle.language.proofs.accepts.Given as goal

abbrev pub invariant-loop-b : goal.invariant-loop-b
invariant-loop-b g l =
    (word : List ℕ) → AlwaysYields g.I.Iterator.next_gives (λ x. x.now) l.fn.letters word
    → Walk g.I.Iterator.next_gives (cells l.table) l.b-iterator l.state (accepts (cells l.table) l.start word)
