-- `data::phone_at` meets its contract: the string fits, so the reader takes it. Assumes nothing.
use Rattle.std.proofs.Common.{◌≡◌}
use Rattle.reader.specs.Reader.{text_taken, text_fits}
use Rattle.data.specs.Places.{text_at}
use Rattle.data.proofs.phone_at.Goals as goal

pub unwrap-requires : goal.unwrap-requires
unwrap-requires c =
    let s : c.moved.result.bytes.now ≡ c.args.s.now = cc in
    let at : c.moved.result.pos ≡ c.args.place = cc in
    text_fits c.args.s.now c.args.place c.read_string.result _ (rw (s, at) at c.read_string.ensures.taken) c.requires

pub returns : goal.returns
unfolding text_at
returns c =
    let s : c.moved.result.bytes.now ≡ c.args.s.now = cc in
    let at : c.moved.result.pos ≡ c.args.place = cc in
    (text_taken c.args.s.now c.args.place (rw (s, at, c.unwrap.ensures) at c.read_string.ensures.taken)).is
