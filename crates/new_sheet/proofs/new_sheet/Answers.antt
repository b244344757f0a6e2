-- `new_sheet` meets its contract: refused for its length, then for its version; else item 0 is written. Assumes nothing.
use borrow.Author.Tests.{leb-true}
use native.Mathlib.Omega.{arith}
use Prim.Native.Nat.{ℕ, ◌<◌}
use mathlib.Core.Path.{◌≡◌, sym, ◌∙◌}
use mathlib.Core.Bool.{true}
use lib.Dec.{leb}
use lib.ListN.{length}
use Rattle.texts.specs.Choice.{both_true}
use Rattle.records.specs.Records.{put_record}
use Rattle.versions.specs.Versions.{is_sheet_version}
use Rattle.versions.specs.SoundStress.{SoundVersion, first, second}
use Rattle.versions.proofs.SoundStress.{version_told}
use Rattle.utterance_spec.specs.Sheet.{is_sheet_length}
use Rattle.new_sheet.specs.NewSheet.{new_sheet, new_bytes, new_head}
use borrow.Author.Rules.{rules}
use Rattle.new_sheet.proofs.new_sheet.Goals as goal

-- a known version fits a byte
small : (v : ℕ) → SoundVersion v → v < 256
small v (first e) = omega (arith, e)
small v (second e) = omega (arith, e)

pub returns-then-not-is_sheet_length : goal.returns-then-not-is_sheet_length
unfolding new_sheet new_bytes
returns-then-not-is_sheet_length c =
    let e = sym c.is_sheet_length.ensures ∙ c.if-not-is_sheet_length.true in
    record { result_value = rw e; sheet_after = rw e }

pub returns-then-not-is_sheet_version : goal.returns-then-not-is_sheet_version
unfolding new_sheet new_bytes
returns-then-not-is_sheet_version c =
    let right : is_sheet_length (length c.args.sheet.now) ≡ true =
    sym c.is_sheet_length.ensures ∙ c.if-not-is_sheet_length.false in
    let l = right in
    let e = sym c.is_sheet_version.ensures ∙ c.if-not-is_sheet_version.true in
    record { result_value = rw (l, e); sheet_after = rw (l, e) }

pub overflow_cast-head : goal.overflow_cast-head
overflow_cast-head c =
    let known : is_sheet_version c.args.version ≡ true =
    sym c.is_sheet_version.ensures ∙ c.if-not-is_sheet_version.false in
    let s = small c.args.version (version_told c.args.version (known)) in search rules

pub copy_in-requires : goal.copy_in-requires
unfolding is_sheet_length
copy_in-requires c =
    let right : is_sheet_length (length c.args.sheet.now) ≡ true =
    sym c.is_sheet_length.ensures ∙ c.if-not-is_sheet_length.false in
    let n = length c.args.sheet.now in
    omega (arith, leb-true 64 n (both_true (leb 64 n) (leb n 65536) (right)).0)

pub returns : goal.returns
unfolding new_sheet new_bytes new_head put_record
returns c =
    let known : is_sheet_version c.args.version ≡ true =
    sym c.is_sheet_version.ensures ∙ c.if-not-is_sheet_version.false in
    let right : is_sheet_length (length c.args.sheet.now) ≡ true =
    sym c.is_sheet_length.ensures ∙ c.if-not-is_sheet_length.false in
    let l = right in
    let k = known in
    record { result_value = rw (l, k); sheet_after = rw (l, k) c.copy_in.ensures }
