-- Theorems about `specs/SoundSheet.antt`: 01, Store and sheet, and 02, S-9: a sound sheet's length in the paper's words, which `is_sheet_length` decides in both directions; and that its
-- items, and item 0, are sound ones, and each syllable's stress one of the sheet's version.
-- Assumes nothing.
use Rattle.std.specs.Prelude.{ℕ, ◌≤◌, ◌≡◌, true, List, [], ◌∷◌, leb, length}
use Rattle.std.proofs.Common.{arith, leb-true, le-leb}
use Rattle.texts.specs.Choice.{both_true}
use Rattle.records.specs.Records.{record_at, length_record_at}
use Rattle.records.specs.Chain.{All, all_map}
use Rattle.versions.specs.Versions.{is_sheet_version}
use Rattle.versions.proofs.SoundStress.{stress_told}
use Rattle.items_spec.specs.Item.{item_of}
use Rattle.items_spec.specs.SoundItem.{SoundItem, SoundHead}
use Rattle.items_spec.proofs.Decided.{item_sound, head_sound}
use Rattle.utterance_spec.specs.Tree.{SyllableAt, WordAt, syllables_at, items_at, SungIn, Sung}
use Rattle.utterance_spec.specs.Sheet.{at, used, version, is_sheet_length}
use Rattle.utterance_spec.specs.Sound.{Placed, Sound}
use Rattle.utterance_spec.proofs.Decided.{top}
use Rattle.utterance_spec.specs.SoundSheet.{SheetLength, Stressed, AllStressed}

pub length_sound : (n : ℕ) → is_sheet_length n ≡ true → SheetLength n
unfolding is_sheet_length
length_sound n h = let b = both_true (leb 64 n) (leb n 65536) h in record { from = leb-true 64 n b.0; to = leb-true n 65536 b.1 }

pub sound_length : (n : ℕ) → SheetLength n → is_sheet_length n ≡ true
unfolding is_sheet_length
sound_length n s = rw (le-leb 64 n s.from, le-leb n 65536 s.to)

-- an item of a sound sheet lies inside it
item_size : (b : List ℕ) (s : Sound b) (n : ℕ) → n ≤ used b → length (record_at 64 b n) ≡ 64
item_size b s n h = let r = s.room in length_record_at 64 b n (omega arith)

-- item 0 of a sound sheet, and each item of its words, is a sound one
pub sheet_head : (b : List ℕ) → Sound b → SoundHead (record_at 64 b 0)
sheet_head b s = head_sound (record_at 64 b 0) (item_size b s 0 (omega arith)) s.head

pub items_sound : (b : List ℕ) (s : Sound b) → All (λ (n : ℕ). SoundItem (record_at 64 b n)) (items_at s.words)
items_sound b s =
    all_map (Placed b) (λ (n : ℕ). SoundItem (record_at 64 b n)) (items_at s.words) (λ n p. item_sound (record_at 64 b n) (item_size b s n p.inside) p.sound) s.each

stresses_in : (b : List ℕ) → is_sheet_version (version b) ≡ true → (ys : List SyllableAt) → SungIn (at b) (version b) ys → All (Stressed b) (syllables_at ys)
unfolding at item_of
stresses_in b k [] h = tt
stresses_in b k (y ∷ ys) h = (stress_told (version b) (at b y.at).stress k h.0, stresses_in b k ys h.2)

stresses_at : (b : List ℕ) → is_sheet_version (version b) ≡ true → (ws : List WordAt) → Sung (at b) (version b) ws → AllStressed b ws
stresses_at b k [] h = tt
stresses_at b k (w ∷ ws) h = (stresses_in b k w.syllables h.0, stresses_at b k ws h.1)

pub stresses_sound : (b : List ℕ) (s : Sound b) → AllStressed b s.words
stresses_sound b s = stresses_at b (top b s.head).2 s.words s.sung
