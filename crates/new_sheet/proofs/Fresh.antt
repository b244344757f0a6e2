-- Theorems about `specs/Fresh.antt`: A sheet as new sheet leaves it is sound, has the version asked for and says nothing; only item 0 is written.
-- Assumes nothing.
use Rattle.std.specs.Prelude.{ℕ, ◌+◌, ◌*◌, ◌≤◌, ◌≡◌, ◌≢◌, true, false, List, [], leb, length}
use native.Mathlib.Omega.{arith}
use Rattle.std.proofs.Math.Path.{refl, sym, ap}
use Rattle.std.proofs.Common.{◌∙◌}
use borrow.Author.Tests.{leb-true}
use Rattle.texts.specs.Choice.{both_true}
use Rattle.texts.specs.Lists.{every}
use Rattle.texts.specs.Text.{is}
use Rattle.records.specs.Fields.{u16_at}
use Rattle.records.specs.Records.{record_at, put_record, length_put_record, put_record_same, put_record_other}
use Rattle.records.specs.Chain.{end_of}
use Rattle.versions.specs.Versions.{is_sheet_version}
use Rattle.items_spec.specs.Item.{Item, item_of, is_clean, is_head_item, is_head}
use Rattle.utterance_spec.specs.Tree.{sibling, prev, follow}
use Rattle.utterance_spec.specs.Sheet.{at, is_sheet_length, reading, page}
use Rattle.answers.specs.Told.{refused, accepted}
use Rattle.new_sheet.specs.NewSheet.{new_head, new_sheet, new_bytes}
use Rattle.utterance_spec.specs.Sound.{Sound}
use Rattle.utterance_spec.proofs.Read.{reading_is}
use Rattle.new_sheet.specs.Fresh.{head_of}

blank : (v : ℕ) → item_of (new_head v) ≡ head_of v
unfolding new_head item_of u16_at
blank v = refl

blank_head : (v : ℕ) → is_sheet_version v ≡ true → is_head (new_head v) ≡ true
unfolding new_head is_head is_clean is_head_item item_of u16_at every is
blank_head v h = rw h

module _ (b : List ℕ) (v : ℕ) (size : is_sheet_length (length b) ≡ true) (known : is_sheet_version v ≡ true) where
  fits : 64 * 0 + 64 ≤ length b
  unfolding is_sheet_length
  fits = let l = leb-true 64 (length b) (both_true (leb 64 (length b)) (leb (length b) 65536) size).0 in omega arith

  is_new : new_bytes b v ≡ put_record 64 b 0 (new_head v)
  unfolding new_bytes new_sheet
  is_new = rw (size, known)

  pub length_new : length (new_bytes b v) ≡ length b
  unfolding new_head
  length_new = rw is_new (length_put_record 64 b 0 (new_head v) fits refl)

  head_new : record_at 64 (new_bytes b v) 0 ≡ new_head v
  unfolding new_head
  head_new = rw is_new (put_record_same 64 b 0 (new_head v) fits refl)

  pub new_other : (j : ℕ) → j ≢ 0 → record_at 64 (new_bytes b v) j ≡ record_at 64 b j
  unfolding new_head
  new_other j r = rw is_new (put_record_other 64 b 0 (new_head v) fits refl j r)

  zero : at (new_bytes b v) 0 ≡ head_of v
  unfolding at
  zero = ap item_of head_new ∙ blank v

  pub new_sound : Sound (new_bytes b v)
  unfolding sibling prev follow end_of
  new_sound =
      let u = ap (λ (i : Item). i.parent) zero in
      let l = length_new in
      let f = fits in
      record {
        size = rw length_new size;
        head = rw head_new (blank_head v known);
        room = omega arith;
        words = [];
        tree = record {
          top = record { linked = ap (λ (i : Item). i.first) zero; last = ap (λ (i : Item). i.last) zero; parents = tt };
          words = tt;
        };
        all = sym u;
        once = tt;
        each = tt;
        sung = tt;
        onwards = ap (λ (i : Item). i.follow) zero;
        backwards = ap (λ (i : Item). i.prev) zero;
      }

  no_words_lem : reading (new_bytes b v) ≡ []
  unfolding new_sound
  no_words_lem = reading_is (new_bytes b v) new_sound

  -- it is a page of that version, without words
  pub new_reads : page (new_bytes b v) ≡ record { version = v; state = 0; words = [] }
  unfolding page
  new_reads = rw (ap (λ (i : Item). i.stress) zero, ap (λ (i : Item). i.mark) zero, no_words_lem)

-- the answer, and a sheet that is refused for its version, by its tests
pub new_taken : (b : List ℕ) (v : ℕ) → is_sheet_length (length b) ≡ true → is_sheet_version v ≡ true → new_sheet b v ≡ accepted 0 0
unfolding new_sheet
new_taken b v size known = rw (size, known)

pub new_unknown : (b : List ℕ) (v : ℕ) → is_sheet_length (length b) ≡ true → is_sheet_version v ≡ false → (new_sheet b v ≡ refused 15 0) × (new_bytes b v ≡ b)
unfolding new_sheet new_bytes
new_unknown b v size unknown = (rw (size, unknown), rw (size, unknown))
