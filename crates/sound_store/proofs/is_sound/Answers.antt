-- `sound_store::is_sound` meets its contract: a store's length bounds its slots. Assumes nothing.
use Rattle.std.proofs.Common.{arith}
use Rattle.std.proofs.lemmas.Grind.{common_steps}
use Rattle.store_spec.specs.Store.{is_store_length}
use Rattle.sound_store.proofs.is_sound.Goals as goal

pub keys_differ-requires : goal.keys_differ-requires
unfolding is_store_length
keys_differ-requires c = grind (arith, common_steps)
