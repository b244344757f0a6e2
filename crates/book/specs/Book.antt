-- 01, Store and sheet, and 02, S-2 and S-9: the plain book beside a list of calls, fed only the calls and whether each was refused.
-- Assumes nothing.
use Rattle.std.specs.Prelude.{ℕ, Bool, List, [], ◌∷◌, ◌++◌}
use Rattle.texts.specs.Choice.{when◌then◌else◌}
use Rattle.slots_spec.specs.Slot.{Entry}
use Rattle.store_spec.specs.Adding.{adding}
use Rattle.lexicon_spec.specs.Adding.{new_entry}
use Rattle.lines.specs.Lines.{lines}
use Rattle.addtext_spec.specs.Filling.{line_entries, adding_all}
use Rattle.utterance_spec.specs.Tree.{Word, Page}
use Rattle.pipeline_spec.specs.Pronounced.{Sections, Spoken, barred, phones, pronounced, said}
use Rattle.book.specs.Calls.{Call, make_sheet, adds_entry, adds_text, previews_text, accepts_text, says_word, Made, State, step, is_refused}

-- entries and words, at first none; the sheet's version (02, S-9); and the entries of the latest accepted first step, none if there was none
pub record Book : Type 0 where
  pub entries : List Entry
  pub version : ℕ
  pub words : List Word
  pub previewed : List Entry

unfoldable pub empty : ℕ → Book
empty version = record { entries = []; version = version; words = []; previewed = [] }

-- what a sheet with these words reads as
abbrev pub page_of : Book → Page
page_of k = record { version = k.version; state = 0; words = k.words }

-- a call, and whether it was refused
pub record Heard : Type 0 where
  pub call : Call
  pub refused : Bool

module _ (c : Sections) where
  -- the word that was said; one that is barred is refused, and puts nothing
  abbrev pub on_spoken : ℕ → List ℕ → Spoken → List Word
  on_spoken version word (barred n) = []
  on_spoken version word (phones source place ps) = said version word source ps ∷ []

  -- what an accepted call changes
  unfoldable pub accepts : Call → Book → Book
  accepts (make_sheet version) k = record { entries = k.entries; version = version; words = []; previewed = k.previewed }
  accepts (adds_entry word tag cells exact) k =
      record { entries = adding (new_entry word tag cells exact) k.entries; version = k.version; words = k.words; previewed = k.previewed }
  accepts (adds_text text) k =
      record { entries = adding_all (line_entries (lines text)) k.entries; version = k.version; words = k.words; previewed = k.previewed }
  accepts (previews_text text) k = record { entries = k.entries; version = k.version; words = k.words; previewed = line_entries (lines text) }
  accepts accepts_text k = record { entries = adding_all k.previewed k.entries; version = k.version; words = k.words; previewed = k.previewed }
  accepts (says_word word tag) k =
      record {
        entries = k.entries;
        version = k.version;
        words = k.words ++ on_spoken k.version word (pronounced c k.entries word tag);
        previewed = k.previewed;
      }

  -- a refused call changes nothing
  unfoldable pub keeps : List Heard → Book → Book
  keeps [] k = k
  keeps (h ∷ hs) k = keeps hs (when h.refused then k else accepts h.call k)

  -- what the book hears of a list of calls
  unfoldable pub hears : List Made → State → List Heard
  hears [] s = []
  hears (m ∷ ms) s = record { call = m.call; refused = is_refused c m.call m.other s } ∷ hears ms (step c m.call m.other s)
