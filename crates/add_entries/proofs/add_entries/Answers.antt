-- `add_entries` meets its contract: a sound store has 512 bytes at least, so it has a count. Assumes nothing.
use Rattle.std.proofs.Common.{sym, ◌∙◌, length}
use Rattle.store_spec.proofs.Sound.{sound}
use Rattle.store_spec.proofs.Result.{long}
use Rattle.add_entries.proofs.add_entries.Goals as goal

pub count-requires : goal.count-requires
count-requires c =
    let b = c.args.store.now in
    long (length b) (sound b (sym c.is_sound.ensures ∙ c.if-not-is_sound.false)).size
