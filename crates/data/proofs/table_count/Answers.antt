-- `data::table_count` meets its contract: a table has room for its count, so the reader takes it. Assumes nothing.
use Rattle.std.proofs.Common.{◌≡◌, ◌≤◌, ℕ, List, Option, Some, None, arith, refl, length}
use Rattle.std.specs.Prelude.{IsSome}
use Rattle.data.specs.Sections.{table_count}
use Rattle.reader.specs.Reader.{Takes, number_at, number_taken, number_broken}
use Rattle.data.proofs.table_count.Goals as goal

is_taken : (s : List ℕ) (r : Option ℕ) (to : ℕ) → 4 ≤ length s → Takes (number_at s 0) 0 r to → IsSome r
is_taken s None to l h = absurd (omega (arith, number_broken s 0 refl h.0))
is_taken s (Some n) to l h = refl

pub unwrap-requires : goal.unwrap-requires
unwrap-requires c =
    let s = c.args.s.now in
    let new : c.new.result.bytes.now ≡ s = cc in
    is_taken s c.read_number.result _ (table_count s c.requires).0 (rw (new, c.new.ensures.1) at c.read_number.ensures.taken)

pub returns : goal.returns
returns c =
    let s = c.args.s.now in
    let new : c.new.result.bytes.now ≡ s = cc in
    let t = table_count s c.requires in
    let r = number_taken s 0 refl (rw (new, c.new.ensures.1, c.unwrap.ensures) at c.read_number.ensures.taken) in
    (r.is, omega (arith, t.1, r.is))
