-- Theorems about `specs/Accepted.antt`: An accepted add entry leaves a sound store whose entries are the old ones without that key and then the new one, and whose count is one higher.
-- Assumes nothing.
use Rattle.std.specs.Prelude.{ℕ, ◌+◌, ◌/◌, ◌≡◌, Bool, ◌&&◌, List, eqb, ltb}
use Rattle.std.proofs.Common.{arith, ◌∙◌, ltb-false}
use Rattle.std.proofs.Math.ListN.{length}
use Rattle.texts.specs.Choice.{cases}
use Rattle.texts.specs.Text.{is_word}
use Rattle.cells.specs.Cells.{ascii_phones}
use Rattle.data.specs.Sections.{is_phone_table}
use Rattle.store_spec.specs.Store.{is_sound, count, largest}
use Rattle.store_spec.specs.Adding.{added, is_full}
use Rattle.store_spec.proofs.Sound.{sound}
use Rattle.store_spec.proofs.Added.{room}
use Rattle.store_spec.proofs.Laws.Counts.{counted, counted_length, counted_entries, counted_count}
use Rattle.answers.specs.declared.Refusal.TheVariants.{Section, Unsound, Count, Text, UnknownPhone, Phones, Full}
use Rattle.answers.specs.Told.{accepted}
use Rattle.answers.specs.Laws.Numbers.{never_accepted}
use Rattle.lexicon_spec.specs.Adding.{new_entry, may_add_all}
use Rattle.lexicon_spec.proofs.Laws.Fitting.{new_fits}
use Rattle.add_entry.specs.AddEntry.{add_entry, store_after}
use Rattle.add_entry.specs.Accepted.{Entered, Taken}

module _ (table store word tag phones : List ℕ) (exact : Bool) where
  pub taken : add_entry table store word tag phones exact ≡ accepted 0 0 → Taken table store word tag phones exact
  unfolding add_entry
  taken h =
      cases (is_phone_table table) (λ t₁. cases (is_sound store) (λ t₂. cases (eqb (count store) largest)
      (λ t₁₂. never_accepted Count 0 0 0 (rw (t₁, t₂, t₁₂) at h))
      (λ t₁₂. cases (is_word word && is_word tag && ascii_phones phones) (λ t₃.
      cases (may_add_all table phones) (λ t₅. cases (ltb 24 (length phones / 16))
      (λ t₇. never_accepted Phones 0 0 0 (rw (t₁, t₂, t₁₂, t₃, t₅, t₇) at h))
      (λ t₇. cases (is_full store (new_entry word tag phones exact))
      (λ t₈. never_accepted Full 0 0 0 (rw (t₁, t₂, t₁₂, t₃, t₅, t₇, t₈) at h))
      (λ t₈. record { passed = record { tabled = t₁; stored = t₂; rises = t₁₂; texts = t₃; known = t₅; few = t₇ }; free = t₈ })))
      (λ t₅. never_accepted UnknownPhone 0 0 0 (rw (t₁, t₂, t₁₂, t₃, t₅) at h)))
      (λ t₃. never_accepted Text 0 0 0 (rw (t₁, t₂, t₁₂, t₃) at h))))
      (λ t₂. never_accepted Unsound 0 0 0 (rw (t₁, t₂) at h)))
      (λ t₁. never_accepted Section 0 0 0 (rw t₁ at h))

  -- and there it is accepted
  pub taken_accepted : Taken table store word tag phones exact → add_entry table store word tag phones exact ≡ accepted 0 0
  unfolding add_entry
  taken_accepted t = let p = t.passed in rw (p.tabled, p.stored, p.rises, p.texts, p.known, p.few, t.free)

  -- an answer without a refusal has nothing else to tell
  pub accepted_is : (add_entry table store word tag phones exact).refusal ≡ 0 → add_entry table store word tag phones exact ≡ accepted 0 0
  unfolding add_entry
  accepted_is h =
      cases (is_phone_table table) (λ t₁. cases (is_sound store) (λ t₂. cases (eqb (count store) largest)
      (λ t₁₂. absurd (omega (arith, (rw (t₁, t₂, t₁₂) at h))))
      (λ t₁₂. cases (is_word word && is_word tag && ascii_phones phones) (λ t₃.
      cases (may_add_all table phones) (λ t₅. cases (ltb 24 (length phones / 16))
      (λ t₇. absurd (omega (arith, (rw (t₁, t₂, t₁₂, t₃, t₅, t₇) at h))))
      (λ t₇. cases (is_full store (new_entry word tag phones exact))
      (λ t₈. absurd (omega (arith, (rw (t₁, t₂, t₁₂, t₃, t₅, t₇, t₈) at h))))
      (λ t₈. rw (t₁, t₂, t₁₂, t₃, t₅, t₇, t₈))))
      (λ t₅. absurd (omega (arith, (rw (t₁, t₂, t₁₂, t₃, t₅) at h)))))
      (λ t₃. absurd (omega (arith, (rw (t₁, t₂, t₁₂, t₃) at h))))))
      (λ t₂. absurd (omega (arith, (rw (t₁, t₂) at h)))))
      (λ t₁. absurd (omega (arith, (rw t₁ at h))))

  -- the law
  pub add_law : add_entry table store word tag phones exact ≡ accepted 0 0
      → Entered store (store_after table store word tag phones exact) (new_entry word tag phones exact)
  unfolding store_after
  add_law h =
      let t = taken h in
      let p = t.passed in
      let e = new_entry word tag phones exact in
      let f = new_fits word tag phones exact p.texts (ltb-false 24 (length phones / 16) p.few) in
      let a = room store e (sound store p.stored) f t.free in
      let n = count store + 1 in
      rw h (record {
        sound = counted (added store e) n a.sound;
        entries = counted_entries (added store e) n a.sound ∙ a.entries;
        length = counted_length (added store e) n ∙ a.length;
        rises = p.rises;
        count = λ l. counted_count (added store e) n a.sound (omega (arith, l));
      })
