-- `compiled::Lexicon::tagged` meets its contract: the entries passed have other tags, so the run from i on decides. Assumes nothing.
use Rattle.std.proofs.Common.{arith, ◌≡◌, ◌+◌, ◌-◌}
use Rattle.compiled_spec.proofs.Search.{walking}
use Rattle.compiled.proofs.sections.Lexicon.tagged.Goals as goal

pub loop-i-preserved : goal.loop-i-preserved
loop-i-preserved c =
    let e : c.len-i-end.result - c.loop-i.i - 1 ≡ c.len-i-end.result - (c.loop-i.i + 1) = omega arith in
    grind (arith, walking)
