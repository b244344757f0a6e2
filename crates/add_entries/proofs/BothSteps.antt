-- Theorems about `specs/BothSteps.antt`: 02, S-2: add text is both steps together. Where it is accepted they are, one behind the other, and leave what it leaves; and the other way round.
-- Assumes nothing.
use Rattle.std.specs.Prelude.{ℕ, ◌+◌, ◌≡◌, List, eqb, length}
use Rattle.std.proofs.Common.{◌∙◌}
use Rattle.std.proofs.Math.Path.{ap}
use borrow.Author.Tests.{eqb-true, eqb-false, eq-eqb}
use Rattle.texts.specs.Choice.{cases, never}
use Rattle.store_spec.specs.Store.{count, with_count}
use Rattle.store_spec.proofs.Sound.{is_sound_lem}
use Rattle.addtext_spec.specs.Filling.{text_filled, spare_filled, told_filled}
use Rattle.answers.specs.declared.Answer.{Answer}
use Rattle.answers.specs.Told.{accepted}
use Rattle.preview_entries.specs.PreviewEntries.{barred as barred_first, preview_entries, spare_after as spare_previewed}
use Rattle.preview_entries.proofs.Ends.{read as read_first}
use Rattle.accept_entries.proofs.Accepted.{accept_law}
use Rattle.accept_entries.specs.AcceptEntries.{accept_entries, store_after as store_accepted}
use Rattle.add_entries.specs.AddEntries.{barred, add_entries}
use Rattle.add_entries.specs.Ends.{Taken, Ends, whole, stopped, unread}
use Rattle.add_entries.proofs.Ends.{ends}
use Rattle.add_entries.specs.BothSteps.{Together}

module _ (table store spare text : List ℕ) (t : Taken table store spare text) where
  abbrev full : List ℕ
  full = (text_filled table store text).store

  unbarred : barred_first table store spare text ≡ 0
  unfolding barred_first
  unbarred = let r = t.tests in rw (r.tabled, r.stored, r.alike, r.low)

  is_filled : add_entries table store spare text ≡ (text_filled table store text).answer
  unfolding add_entries barred
  is_filled = let r = t.tests in rw (r.tabled, r.stored, r.alike, r.rises, r.low)

  accepts : accept_entries store full ≡ accepted 0 0
  unfolding accept_entries
  accepts =
      let r = t.tests in
      let g = t.grown in
      rw (r.stored, eq-eqb (length full) (length store) g.length, is_sound_lem full g.sound, eq-eqb (count full) (count store) g.count, r.rises)

  gives : store_accepted store full ≡ with_count full (count store + 1)
  unfolding store_accepted
  gives = rw (accepts, t.grown.count)

  together : Together table store spare text
  unfolding preview_entries spare_previewed spare_filled told_filled
  together =
      record {
        first = rw (unbarred, t.clean);
        same_lines = rw (unbarred, t.clean, is_filled);
        same_spare = rw (unbarred, t.clean, t.spare_is);
        second = rw t.spare_is accepts;
        same_store = rw (t.spare_is, t.store_is) gives;
      }

pub both_steps : (table store spare text : List ℕ) → (add_entries table store spare text).refusal ≡ 0 → Together table store spare text
both_steps table store spare text h = go (ends table store spare text)
  where
    go : Ends table store spare text → Together table store spare text
    go (whole e t) = together table store spare text t
    go (stopped e s p) = let z = eq-eqb (add_entries table store spare text).refusal 0 h in never (eqb (add_entries table store spare text).refusal 0) z e
    go (unread e s p) = let z = eq-eqb (add_entries table store spare text).refusal 0 h in never (eqb (add_entries table store spare text).refusal 0) z e

pub steps_both : (table store spare text : List ℕ) → (preview_entries table store spare text).refusal ≡ 0
    → (accept_entries store (spare_previewed table store spare text)).refusal ≡ 0 → (add_entries table store spare text).refusal ≡ 0
unfolding preview_entries told_filled
steps_both table store spare text h k =
    cases (eqb (barred_first table store spare text) 0)
    (λ o. let r = read_first table store spare text (eqb-true (barred_first table store spare text) 0 o) in
    let f = accept_law store (spare_previewed table store spare text) k in
    let z : add_entries table store spare text ≡ (text_filled table store text).answer =
    unfold add_entries barred in rw (r.tabled, r.stored, r.alike, f.rises, r.low) in
    cases (eqb (text_filled table store text).answer.refusal 0)
    (λ e. ap (λ (a : Answer). a.refusal) z ∙ eqb-true (text_filled table store text).answer.refusal 0 e)
    (λ e. absurd (eqb-false (text_filled table store text).answer.refusal 0 e (rw (o, e) at h))))
    (λ o. absurd (eqb-false (barred_first table store spare text) 0 o (rw o at h)))
