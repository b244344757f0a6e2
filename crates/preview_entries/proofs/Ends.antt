-- Theorems about `specs/Ends.antt`: An accepted preview leaves a spare with the text's entries added in turn and the count seen; one that stops at a line, the largest
-- count; any other the spare as it was.
-- Assumes nothing.
use Rattle.std.specs.Prelude.{ℕ, ◌≡◌, List, eqb, length}
use Rattle.std.proofs.Common.{arith, eqb-true}
use Rattle.texts.specs.Choice.{cases}
use Rattle.texts.specs.Text.{ascii}
use Rattle.data.specs.Sections.{is_phone_table}
use Rattle.lines.specs.Lines.{lines}
use Rattle.lines.specs.Laws.Ascii.{ascii_lines}
use Rattle.store_spec.specs.Store.{is_sound}
use Rattle.store_spec.proofs.Sound.{sound}
use Rattle.addtext_spec.specs.Filling.{text_filled, spare_filled, told_filled}
use Rattle.addtext_spec.proofs.Grown.{stop_law}
use Rattle.addtext_spec.proofs.Laws.Ends.{text_grown}
use Rattle.preview_entries.specs.PreviewEntries.{barred, preview_entries, spare_after}
use Rattle.preview_entries.specs.Ends.{Read, Ends, whole, stopped, unread}

module _ (table store spare text : List ℕ) where
  pub read : barred table store spare text ≡ 0 → Read table store spare text
  unfolding barred
  read h =
      cases (is_phone_table table) (λ t₁. cases (is_sound store) (λ t₂. cases (eqb (length spare) (length store)) (λ l. cases (ascii text)
      (λ t₃. record { tabled = t₁; stored = t₂; alike = l; low = t₃ })
      (λ t₃. absurd (omega (arith, (rw (t₁, t₂, l, t₃) at h)))))
      (λ l. absurd (omega (arith, (rw (t₁, t₂, l) at h)))))
      (λ t₂. absurd (omega (arith, (rw (t₁, t₂) at h)))))
      (λ t₁. absurd (omega (arith, (rw t₁ at h))))

  pub ends : Ends table store spare text
  unfolding preview_entries spare_after spare_filled told_filled
  ends =
      cases (eqb (barred table store spare text) 0)
      (λ o. let r = read (eqb-true (barred table store spare text) 0 o) in
      cases (eqb (text_filled table store text).answer.refusal 0)
      (λ f. let g = text_grown table store text r.tabled r.stored r.low (eqb-true (text_filled table store text).answer.refusal 0 f) in
      whole (rw (o, f)) (rw (o, f) g))
      (λ f. let z = stop_law table store 1 0 (lines text) r.tabled (sound store r.stored) (ascii_lines text r.low) in
      stopped (rw (o, f) f) (rw (o, f) z)))
      (λ o. unread (rw o o) (rw o))
