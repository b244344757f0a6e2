-- `appending::size` meets its contract: each phone, and each that ends a syllable, is counted. Assumes nothing.
use Rattle.std.proofs.Common.{rules, arith, ◌∙◌, ◌≡◌, sym}
use Rattle.std.specs.List.{count_by}
use Rattle.cells.specs.Cells.{phones_of, length_phones_of}
use Rattle.appending.specs.Laws.Grouped.{ends}
use Rattle.appending.specs.Laws.Numbers.{size_counted}
use Rattle.appending.proofs.size.Goals as goal

pub returns : goal.returns
unfolding ends
returns c =
    let n : c.count.result ≡ count_by ends c.args.cuts.now = search rules in
    let s = size_counted c.args.cuts.now (phones_of c.args.phones.now) (c.requires.0 ∙ sym (length_phones_of c.args.phones.now)) c.requires.1 in
    omega arith
