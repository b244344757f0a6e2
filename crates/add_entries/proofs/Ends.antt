-- Theorems about `specs/Ends.antt`: A text that is taken whole leaves a sound store with its entries added in turn and the count one higher, and a spare that differs in the count only.
-- One that stops at a line leaves the store, and a spare with the largest count; any other leaves both.
-- Assumes nothing.
use Rattle.std.specs.Prelude.{ℕ, ◌≡◌, List, eqb, length}
use Rattle.std.proofs.Common.{arith}
use borrow.Author.Tests.{eqb-true}
use Rattle.texts.specs.Choice.{cases}
use Rattle.texts.specs.Text.{ascii}
use Rattle.data.specs.Sections.{is_phone_table}
use Rattle.lines.specs.Lines.{lines}
use Rattle.lines.specs.Laws.Ascii.{ascii_lines}
use Rattle.store_spec.specs.Store.{is_sound, count, largest}
use Rattle.store_spec.proofs.Sound.{sound}
use Rattle.addtext_spec.specs.Filling.{text_filled, spare_filled}
use Rattle.addtext_spec.proofs.Grown.{stop_law}
use Rattle.addtext_spec.proofs.Laws.Ends.{text_grown}
use Rattle.add_entries.specs.AddEntries.{barred, add_entries, store_after, spare_after}
use Rattle.add_entries.specs.Ends.{Read, Ends, whole, stopped, unread}

module _ (table store spare text : List ℕ) where
  read : barred table store spare text ≡ 0 → Read table store spare text
  unfolding barred
  read h =
      cases (is_phone_table table) (λ t₁. cases (is_sound store) (λ t₂. cases (eqb (length spare) (length store)) (λ l. cases (eqb (count store) largest)
      (λ t₁₂. absurd (omega (arith, (rw (t₁, t₂, l, t₁₂) at h))))
      (λ t₁₂. cases (ascii text)
      (λ t₃. record { tabled = t₁; stored = t₂; alike = l; rises = t₁₂; low = t₃ })
      (λ t₃. absurd (omega (arith, (rw (t₁, t₂, l, t₁₂, t₃) at h))))))
      (λ l. absurd (omega (arith, (rw (t₁, t₂, l) at h)))))
      (λ t₂. absurd (omega (arith, (rw (t₁, t₂) at h)))))
      (λ t₁. absurd (omega (arith, (rw t₁ at h))))

  pub ends : Ends table store spare text
  unfolding add_entries store_after spare_after spare_filled
  ends =
      cases (eqb (barred table store spare text) 0)
      (λ o. let r = read (eqb-true (barred table store spare text) 0 o) in
      cases (eqb (text_filled table store text).answer.refusal 0)
      (λ f. let z = eqb-true (text_filled table store text).answer.refusal 0 f in
      let g = text_grown table store text r.tabled r.stored r.low z in
      whole (rw o z) (record { tests = r; clean = z; grown = g; store_is = rw (o, f); spare_is = rw (o, f) }))
      (λ f. let z = stop_law table store 1 0 (lines text) r.tabled (sound store r.stored) (ascii_lines text r.low) in
      stopped (rw (o, f)) (rw (o, f)) (rw (o, f) z)))
      (λ o. unread (rw o o) (rw (o, o)) (rw o))
