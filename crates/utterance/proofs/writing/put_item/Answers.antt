-- `utterance::writing::put_item` meets its contract: the item is made in 64 bytes of its own and pasted whole. Assumes nothing.
use Rattle.std.proofs.Common.{ℕ, ◌≡◌, ◌∙◌, ◌*◌, List, length}
use lib.Seq.{paste}
use Rattle.records.specs.Records.{put_record}
use Rattle.utterance.proofs.writing.put_item.Goals as goal

put_written : (b c d i : List ℕ) (n : ℕ) → length c ≡ 64 → c ≡ i → d ≡ paste b (64 * n) c (length c) → d ≡ put_record 64 b n i
unfolding put_record
put_written b c d i n l ec ed = ed ∙ rw (l, ec)

pub returns : goal.returns
returns c = put_written c.args.sheet.now _ _ _ c.args.n c.write.auto.dst c.write.ensures (rw c.from.ensures at c.copy_in.ensures)
