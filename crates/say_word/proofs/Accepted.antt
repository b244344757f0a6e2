-- Theorems about `specs/Accepted.antt`: An accepted say word: what its tests said; and that it leaves a sound sheet of the same version that reads as before and then the word, with the
-- source and the phones that it came to.
-- Assumes nothing.
use Rattle.std.specs.Prelude.{ℕ, ◌+◌, ◌≡◌, refl, ◌&&◌, List}
use Rattle.std.proofs.Common.{arith, sym, ◌∙◌}
use Rattle.std.proofs.Math.Path.{ap, subst}
use borrow.Author.Tests.{eq-eqb, leb-false}
use Rattle.texts.specs.Choice.{both_true, cases}
use Rattle.texts.specs.Text.{is_word}
use Rattle.lts_spec.specs.Letters.{is_trees}
use Rattle.store_spec.specs.Store.{entries, is_sound}
use Rattle.store_spec.proofs.Sound.{sound as sound-store}
use Rattle.compiled_spec.specs.Lexicon.{is_lexicon}
use Rattle.utterance_spec.specs.Sheet.{used, items, version, page, is_sound as is_sheet}
use Rattle.utterance_spec.specs.Sound.{Sound}
use Rattle.utterance_spec.specs.Append.{size, appended}
use Rattle.utterance_spec.proofs.Decided.{sound}
use Rattle.utterance_spec.proofs.Appended.{append_law, append_reads}
use Rattle.answers.specs.declared.Answer.{Answer}
use Rattle.pipeline_spec.specs.Pronounced.{Sections, Spoken, barred, phones as comes, pronounced, said}
use Rattle.pipeline_spec.specs.Placing.{is_crowded, on_spoken}
use Rattle.pipeline_spec.proofs.Laws.Sources.{entries_fit}
use Rattle.pipeline_spec.proofs.Laws.Outcome.{Real, pronounced_real}
use Rattle.pipeline_spec.proofs.Laws.MayStand.{pronounced_stands}
use Rattle.say_word.specs.SayWord.{say_word, sheet_after}
use Rattle.say_word.specs.Accepted.{Passed, Taken}

module _ (c : Sections) (store sheet word tag : List ℕ) where
  passed : (say_word c store sheet word tag).refusal ≡ 0 → Passed c store sheet word tag
  unfolding say_word
  passed h =
      let lexicon = is_lexicon c.lex_phones c.lex_index in
      let trees = is_trees c.lts_phones c.lts_index c.lts_model in
      cases (lexicon && trees)
      (λ t₁. cases (is_sound store && is_sheet sheet)
      (λ t₂. cases (is_word word && is_word tag)
      (λ t₃.
      let a = both_true lexicon trees t₁ in
      let b = both_true (is_sound store) (is_sheet sheet) t₂ in
      record { lexicon = a.0; trees = a.1; sound_store = b.0; sound_sheet = b.1; texts = t₃; answer = rw (t₁, t₂, t₃) })
      (λ t₃. absurd (omega (arith, (rw (t₁, t₂, t₃) at h)))))
      (λ t₂. absurd (omega (arith, (rw (t₁, t₂) at h)))))
      (λ t₁. absurd (omega (arith, (rw t₁ at h))))

  -- by what the word came to
  came_to : (say_word c store sheet word tag).refusal ≡ 0 → Passed c store sheet word tag → (p : Spoken) → pronounced c (entries store) word tag ≡ p → Taken c store sheet word tag
  came_to h t (barred n) e =
      let real = subst Real e (pronounced_real c (entries store) word tag) in
      let z : say_word c store sheet word tag ≡ on_spoken sheet word (barred n) = t.answer ∙ ap (on_spoken sheet word) e in
      absurd (real (sym (ap (λ (a : Answer). a.refusal) z) ∙ h))
  came_to h t (comes source place ps) e =
      let w = said (version sheet) word source ps in
      let z : say_word c store sheet word tag ≡ on_spoken sheet word (comes source place ps) = t.answer ∙ ap (on_spoken sheet word) e in
      let y = sym (ap (λ (a : Answer). a.refusal) z) ∙ h in
      cases (is_crowded sheet w)
      (λ f. absurd (omega (arith, (rw f at y))))
      (λ f.
      let left : sheet_after c store sheet word tag ≡ appended sheet w = unfold sheet_after in rw (eq-eqb (say_word c store sheet word tag).refusal 0 h, e) in
      let s = sound sheet t.sound_sheet in
      let es = entries_fit store (sound-store store t.sound_store) in
      let text = (both_true (is_word word) (is_word tag) t.texts).0 in
      let may = pronounced_stands (version sheet) c (entries store) word tag es t.lexicon t.trees text source place ps e in
      let room = leb-false (items sheet) (used sheet + size w) f in
      record {
        tests = t;
        source = source;
        place = place;
        phones = ps;
        came = e;
        sound = subst Sound (sym left) (append_law sheet w s may room).sound;
        reads = ap page left ∙ append_reads sheet w s may room;
      })

  pub say_law : (say_word c store sheet word tag).refusal ≡ 0 → Taken c store sheet word tag
  say_law h = came_to h (passed h) (pronounced c (entries store) word tag) refl
