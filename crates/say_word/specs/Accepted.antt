-- An accepted say word: what its tests said; and that it leaves a sound sheet of the same version that reads as before and then the word, with the
-- source and the phones that it came to.
-- Assumes nothing.
use Rattle.std.specs.Prelude.{ℕ, ◌≡◌, true, ◌&&◌, List}
use Rattle.texts.specs.Text.{is_word}
use Rattle.lts_spec.specs.Letters.{is_trees}
use Rattle.store_spec.specs.Store.{entries, is_sound}
use Rattle.compiled_spec.specs.Lexicon.{is_lexicon}
use Rattle.utterance_spec.specs.Tree.{put_last}
use Rattle.utterance_spec.specs.Sheet.{version, page, is_sound as is_sheet}
use Rattle.utterance_spec.specs.Sound.{Sound}
use Rattle.pipeline_spec.specs.Pronounced.{Sections, phones as comes, pronounced, said}
use Rattle.pipeline_spec.specs.Placing.{on_spoken}
use Rattle.say_word.specs.SayWord.{say_word, sheet_after}

module _ (c : Sections) (store sheet word tag : List ℕ) where
  -- what its tests said
  pub record Passed : Type 0 where
    pub lexicon : is_lexicon c.lex_phones c.lex_index ≡ true
    pub trees : is_trees c.lts_phones c.lts_index c.lts_model ≡ true
    pub sound_store : is_sound store ≡ true
    pub sound_sheet : is_sheet sheet ≡ true
    pub texts : (is_word word && is_word tag) ≡ true
    pub answer : say_word c store sheet word tag ≡ on_spoken sheet word (pronounced c (entries store) word tag)

  -- what it came to, and what it left
  pub record Taken : Type 0 where
    pub tests : Passed
    pub source : ℕ
    pub place : ℕ
    pub phones : List (List ℕ)
    pub came : pronounced c (entries store) word tag ≡ comes source place phones
    pub sound : Sound (sheet_after c store sheet word tag)
    pub reads : page (sheet_after c store sheet word tag) ≡ put_last (said (version sheet) word source phones) (page sheet)
