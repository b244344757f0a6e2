-- `appending::put_phones` meets its contract: the phones left, put on the sheet as it is, give what all of them give. Assumes nothing.
use Rattle.std.proofs.Common.{◌≡◌, ◌+◌, ◌-◌, length, take, drop}
use Rattle.texts.specs.Lists.{from}
use Rattle.cells.specs.Cells.{phones_of}
use Rattle.utterance_spec.specs.Append.{phone_items, put_items}
use Rattle.appending.proofs.put_phones.Given as goal

abbrev pub invariant-loop-j : goal.invariant-loop-j
invariant-loop-j l =
    record {
      items : put_items l.initial.sheet (l.y + 1) (phone_items l.y l.q l.a (from (l.y + 1) l.count) (phones_of l.phones)) ≡ put_items l.sheet (l.n + 1) (phone_items l.y l.before l.a (from (l.n + 1) (l.count - l.j)) (take (l.count - l.j) (drop l.j (phones_of l.phones))));
      number : l.n ≡ l.y + l.j;
      sheet : length l.sheet ≡ length l.initial.sheet;
    }
