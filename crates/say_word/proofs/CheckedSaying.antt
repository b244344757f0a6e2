-- 01, say word as a call where check lexicon says yes: a refusal by 6 comes from the letter trees alone; lookup has none of the word, and predict refuses it by 6.
-- Assumes nothing.
use Rattle.std.specs.Prelude.{ℕ, ◌≡◌, refl, ◌&&◌, List, ltb, length}
use Rattle.std.proofs.Common.{arith}
use Rattle.std.proofs.Math.Option.{Option, none, some}
use Rattle.texts.specs.Choice.{cases, both_true}
use Rattle.texts.specs.Text.{is_word}
use Rattle.store_spec.specs.Store.{entries, is_sound}
use Rattle.compiled_spec.specs.Lexicon.{is_lexicon}
use Rattle.check_lexicon.specs.CheckLexicon.{check_lexicon}
use Rattle.lts_spec.specs.Letters.{is_trees, letters, stopped}
use Rattle.lts_spec.specs.Call.{predict}
use Rattle.lexicon_spec.specs.Lookup.{Finding, nothing, damaged, found, wanted_tag, find}
use Rattle.lookup.specs.Lookup.{lookup}
use Rattle.lookup.proofs.LookupLaws.{lookup_on_entries}
use Rattle.lookup.specs.CheckedLookup.{Undamaged}
use Rattle.lookup.proofs.CheckedLookup.{find_undamaged}
use Rattle.utterance_spec.specs.Tree.{Word}
use Rattle.utterance_spec.specs.Sheet.{version, is_sound as is_sheet}
use Rattle.answers.specs.Told.{source_number, refused, accepted}
use Rattle.pipeline_spec.specs.Pronounced.{Sections, on_finding, pronounced, said}
use Rattle.pipeline_spec.specs.Placing.{is_crowded, placed, on_spoken}
use Rattle.say_word.specs.SayWord.{say_word}

-- a word that was pronounced is not refused by 6
placed_never : (sheet : List ℕ) (place : ℕ) (w : Word) → (placed sheet place w).refusal ≡ 6 → ⊥
placed_never sheet place w h =
    cases (is_crowded sheet w)
    (λ e. let z : ◌≡◌ {A = ℕ} 9 6 = rw e at h in omega arith)
    (λ e. let z : ◌≡◌ {A = ℕ} 0 6 = rw e at h in omega arith)

-- what is left of the ways to 6: nothing found, and no phones from the trees
only_trees : (sheet word : List ℕ) (f : Finding) (o : Option (List (List ℕ))) (place : ℕ) → Undamaged f → (on_spoken sheet word (on_finding f o place)).refusal ≡ 6 → (f ≡ nothing) × (o ≡ none)
only_trees sheet word nothing none place u h = (refl, refl)
only_trees sheet word nothing (some ps) place u h = absurd (placed_never sheet place (said (version sheet) word 4 ps) h)
only_trees sheet word damaged o place u h = absurd u
only_trees sheet word (found s ps) o place u h =
    cases (ltb 96 (length ps))
    (λ e. let z : ◌≡◌ {A = ℕ} 7 6 = rw e at h in absurd (omega arith))
    (λ e. absurd (placed_never sheet 0 (said (version sheet) word (source_number s) ps) (rw e at h)))

-- a say word that is refused by 6: lookup says none, and predict is refused by 6, whatever their output
pub checked_saying : (c : Sections) → check_lexicon c.lex_phones c.lex_index c.lex_data ≡ accepted 1 0 → (store sheet word tag : List ℕ)
    → (say_word c store sheet word tag).refusal ≡ 6
    → (out : List ℕ) → (lookup c.lex_phones c.lex_index c.lex_data store word tag out ≡ accepted 0 0) × (predict c.lts_phones c.lts_index c.lts_model word out ≡ refused 6 0)
unfolding say_word pronounced predict
checked_saying c checked store sheet word tag h out =
    let lexicon = is_lexicon c.lex_phones c.lex_index in
    let trees = is_trees c.lts_phones c.lts_index c.lts_model in
    let f = find (entries store) c.lex_phones c.lex_index c.lex_data word (wanted_tag tag) in
    let o = letters c.lts_phones c.lts_index c.lts_model word in
    cases (lexicon && trees)
    (λ t₁. cases (is_sound store && is_sheet sheet)
    (λ t₂. cases (is_word word && is_word tag)
    (λ t₃.
    let a = both_true lexicon trees t₁ in
    let b = both_true (is_sound store) (is_sheet sheet) t₂ in
    let d = both_true (is_word word) (is_word tag) t₃ in
    let left = only_trees sheet word f o (stopped word) (find_undamaged c.lex_phones c.lex_index c.lex_data checked (entries store) word (wanted_tag tag)) (rw (t₁, t₂, t₃) at h) in
    let l = (lookup_on_entries c.lex_phones c.lex_index c.lex_data store word tag out a.0 b.0 t₃).0 in
    (rw left.0 at l, rw (a.1, d.0, left.1)))
    (λ t₃. let z : ◌≡◌ {A = ℕ} 3 6 = rw (t₁, t₂, t₃) at h in absurd (omega arith)))
    (λ t₂. let z : ◌≡◌ {A = ℕ} 2 6 = rw (t₁, t₂) at h in absurd (omega arith)))
    (λ t₁. let z : ◌≡◌ {A = ℕ} 1 6 = rw t₁ at h in absurd (omega arith))
