-- `new_store` meets its contract: refused for its length alone, else slot 0 is cleared. Assumes nothing.
use borrow.Author.Tests.{leb-true}
use native.Mathlib.Omega.{arith}
use mathlib.Core.Path.{◌≡◌, sym, ◌∙◌}
use mathlib.Core.Bool.{true, false, ◌&&◌}
use lib.Dec.{leb, eqb}
use lib.ListN.{length}
use Prim.Native.Nat.{◌%◌}
use Rattle.texts.specs.Choice.{both_true}
use Rattle.records.specs.Records.{put_record}
use Rattle.store_spec.specs.Store.{is_store_length}
use Rattle.new_store.specs.NewStore.{new_store, new_bytes, new_head}
use Rattle.new_store.proofs.new_store.Goals as goal

pub returns-then-not-is_store_length : goal.returns-then-not-is_store_length
unfolding new_store new_bytes
returns-then-not-is_store_length c =
    let e : is_store_length (length c.args.store.now) ≡ false = sym c.is_store_length.ensures ∙ c.if-not-is_store_length.true in
    record { result_value = rw e; store_after = rw e }

pub clear-requires : goal.clear-requires
unfolding is_store_length
clear-requires c =
    let n = length c.args.store.now in
    let e : is_store_length n ≡ true = sym c.is_store_length.ensures ∙ c.if-not-is_store_length.false in
    let s = (both_true (leb 512 n && leb n 65536) (eqb (n % 512) 0) e).0 in
    omega (arith, leb-true 512 n (both_true (leb 512 n) (leb n 65536) s).0)

pub returns : goal.returns
unfolding new_store new_bytes new_head put_record
returns c =
    let e : is_store_length (length c.args.store.now) ≡ true = sym c.is_store_length.ensures ∙ c.if-not-is_store_length.false in
    record { result_value = rw e; store_after = rw e c.clear.ensures }
