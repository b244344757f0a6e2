-- 01, demand 3, and 02, S-9: one claim about every list of calls. The store that a list leaves holds the entries, and the sheet tells the words
-- and the version, of the book of what was accepted.
-- Each call keeps store and sheet sound and in step with the book, and the spare with what it may be accepted as; a list of calls is its calls in turn.
-- Assumes nothing.
use Rattle.std.specs.Prelude.{◌≡◌, length}
use Rattle.store_spec.specs.Store.{entries, count}
use Rattle.store_spec.specs.Sound.{Sound as SoundStore}
use Rattle.addtext_spec.specs.Filling.{adding_all}
use Rattle.utterance_spec.specs.Sheet.{page}
use Rattle.utterance_spec.specs.Sound.{Sound}
use Rattle.book.specs.Calls.{State}
use Rattle.book.specs.Book.{Book, page_of}
use Rattle.book.specs.Laws.Counts.{Stand}
use Rattle.book.specs.WellCut.{WellCut}
use Rattle.book.specs.Claim.{Each}

-- store and sheet are sound and in step with the book; the spare is as long as the store, and where their counts are equal it has what the second step accepts
pub record Agrees (s : State) (k : Book) : Type 0 where
  pub store : SoundStore s.store
  pub alike : length s.spare ≡ length s.store
  pub stand : Stand (count s.store) (count s.spare) (entries s.spare ≡ adding_all k.previewed k.entries)
  pub entries : entries s.store ≡ k.entries
  pub sheet : Sound s.sheet
  pub page : page s.sheet ≡ page_of k
  pub cut : Each WellCut k.words
