-- The two ends of a text: a line stopped it, or every line was taken; what the spare is then, and what is told of it.
-- Assumes nothing.
use Rattle.std.specs.Prelude.{ℕ, ◌-◌, ◌≡◌, true, List}
use Rattle.std.proofs.Common.{sym, ap}
use Rattle.texts.specs.Text.{ascii}
use Rattle.data.specs.Sections.{is_phone_table}
use Rattle.lines.specs.Lines.{lines}
use Rattle.lines.specs.Laws.Ascii.{ascii_lines}
use Rattle.store_spec.specs.Store.{used, entries, is_sound, with_count, largest}
use Rattle.store_spec.proofs.Sound.{sound}
use Rattle.answers.specs.declared.Answer.{Answer}
use Rattle.answers.specs.declared.Refusal.{Refusal}
use Rattle.answers.specs.Told.{refusal_number, refused, accepted, accepted_with}
use Rattle.answers.specs.Laws.Numbers.{not_zero}
use Rattle.addtext_spec.specs.Filling.{Filled, text_filled, line_entries, replacing, spare_filled, told_filled}
use Rattle.addtext_spec.specs.Grown.{Grown}
use Rattle.addtext_spec.proofs.Grown.{all_added}
use Rattle.addtext_spec.proofs.Laws.Took.{Told, numbers}

-- stopped by a refusal at a line
module _ (f : Filled) (r : Refusal) (line : ℕ) (e : refused (refusal_number r) line ≡ f.answer) where
  pub spare_stopped : with_count f.store largest ≡ spare_filled f
  unfolding spare_filled
  spare_stopped = rw (← e, not_zero r)

  pub told_stopped : (store text : List ℕ) → f.answer ≡ told_filled store text f
  unfolding told_filled
  told_stopped store text = rw (← e, not_zero r)

-- n lines taken
module _ (f : Filled) (n : ℕ) (e : accepted 0 n ≡ f.answer) where
  pub none_refused : f.answer.refusal ≡ 0
  none_refused = sym (ap (λ (a : Answer). a.refusal) e)

  pub spare_whole : spare_filled f ≡ f.store
  unfolding spare_filled
  spare_whole = rw (← e)

  pub told_whole : (store text : List ℕ) (newly replaced : ℕ) → newly ≡ used f.store - used store
      → replaced ≡ replacing (line_entries (lines text)) (entries store) → accepted_with 0 n newly replaced ≡ told_filled store text f
  unfolding told_filled
  told_whole store text newly replaced w p = rw (← e, ← w, ← p)

-- a text below 128, added to a sound store
module _ (table store text : List ℕ) (t : is_phone_table table ≡ true) (s : is_sound store ≡ true) (a : ascii text ≡ true)
    (h : (text_filled table store text).answer.refusal ≡ 0) where
  pub text_grown : Grown store (text_filled table store text).store (line_entries (lines text))
  text_grown = all_added table t store 1 0 (lines text) (sound store s) (ascii_lines text a) h

  pub text_numbers :
      Told (text_filled table store text).answer.value (replacing (line_entries (lines text)) (entries store)) (used store)
      (used (text_filled table store text).store)
  text_numbers = numbers table store (lines text) t (sound store s) (ascii_lines text a) h
