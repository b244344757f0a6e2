-- 01, Store and sheet, and 02, S-6 and S-9: a word put last. Its items are numbered word, syllable, its phones, next syllable, and written whole;
-- then the last word and the last phone are tied to it, and item 0 is patched.
-- Assumes nothing.
use Rattle.std.specs.Prelude.{ℕ, ◌+◌, ◌*◌, Bool, cond, ◌&&◌, List, [], ◌∷◌, ◌++◌, eqb, leb, length}
use Rattle.texts.specs.Lists.{every, from}
use Rattle.texts.specs.Text.{is_word, is_phone}
use Rattle.records.specs.Fields.{put16}
use Rattle.records.specs.Records.{put_record}
use Rattle.records.specs.Chain.{end_of}
use Rattle.versions.specs.Versions.{is_stress}
use Rattle.items_spec.specs.Item.{Item, item, is_source}
use Rattle.utterance_spec.specs.Tree.{Syllable, Word, SyllableAt, WordAt, syllables_at, phones_in}
use Rattle.utterance_spec.specs.Sheet.{at, used}

-- the first of a list, d if there is none
abbrev pub head_or : ℕ → List ℕ → ℕ
head_or d [] = d
head_or d (x ∷ xs) = x

-- the items that syllables, and a word, need
unfoldable pub size_in : List Syllable → ℕ
size_in [] = 0
size_in (y ∷ ys) = 1 + length y.phones + size_in ys

unfoldable pub size : Word → ℕ
size w = 1 + size_in w.syllables

-- the numbers of syllables and their phones, from k on
unfoldable pub numbered : ℕ → List Syllable → List SyllableAt
numbered k [] = []
numbered k (y ∷ ys) = record { at = k; phones = from (k + 1) (length y.phones) } ∷ numbered (k + 1 + length y.phones) ys

abbrev pub place_of : ℕ → Word → WordAt
place_of n w = record { at = n; syllables = numbered (n + 1) w.syllables }

-- the item of each phone of syllable y: phone q stands before them, and phone a behind
unfoldable pub phone_items : ℕ → ℕ → ℕ → List ℕ → List (List ℕ) → List Item
phone_items y q a [] ps = []
phone_items y q a (x ∷ xs) [] = []
phone_items y q a (x ∷ xs) (p ∷ ps) =
    record { kind = 3; stress = 0; next = head_or 0 xs; first = 0; last = 0; parent = y; prev = q; follow = head_or a xs; mark = 0; source = 0; text = p }
    ∷ phone_items y x a xs ps

-- the items of the syllables of word w; phone q stands before them
unfoldable pub syllable_items : ℕ → ℕ → List SyllableAt → List Syllable → List Item
syllable_items w q [] ys = []
syllable_items w q (s ∷ ss) [] = []
syllable_items w q (s ∷ ss) (y ∷ ys) =
    record { kind = 2; stress = y.stress; next = head_or 0 (syllables_at ss); first = head_or 0 s.phones; last = end_of 0 s.phones; parent = w; prev = 0; follow = 0; mark = 0; source = 0; text = [] }
    ∷ (phone_items s.at q (head_or 0 (phones_in ss)) s.phones y.phones ++ syllable_items w (end_of q s.phones) ss ys)

-- the items of a word numbered from n on; phone q stands before it
unfoldable pub word_items : ℕ → ℕ → Word → List Item
word_items n q w =
    let ss = numbered (n + 1) w.syllables in
    let first = head_or 0 (syllables_at ss) in
    let last = end_of 0 (syllables_at ss) in
    record { kind = 1; stress = 0; next = 0; first = first; last = last; parent = 0; prev = 0; follow = 0; mark = 0; source = w.source; text = w.text }
    ∷ syllable_items n q ss w.syllables

-- whole items, one after another from item k on
unfoldable pub put_items : List ℕ → ℕ → List Item → List ℕ
put_items b k [] = b
put_items b k (i ∷ is) = put_items (put_record 64 b k (item i)) (k + 1) is

-- where an item names the word behind it: its next sibling; item 0, its first child
abbrev pub word_link : ℕ → ℕ
word_link lw = cond (eqb lw 0) 4 2

-- the ties: word n behind the last word lw, or the first word; phone a behind the last phone lp, or the first phone; then item 0's last word, last phone l, and u items used
unfoldable pub tied : List ℕ → ℕ → ℕ → ℕ → ℕ → ℕ → ℕ → List ℕ
tied b lw lp n a l u =
    put16 (put16 (put16 (put16 (put16 b (64 * lw + word_link lw) n) (64 * lp + 12) a) 6 n) 10 l) 8 u

-- the sheet with a word put last
unfoldable pub appended : List ℕ → Word → List ℕ
appended b w =
    let n = used b + 1 in
    let lp = (at b 0).prev in
    let ps = phones_in (numbered (n + 1) w.syllables) in
    tied (put_items b n (word_items n lp w)) (at b 0).last lp n (head_or 0 ps) (end_of lp ps) (used b + size w)

-- a syllable, and a word, that a sheet of version v may hold
unfoldable pub is_syllable : ℕ → Syllable → Bool
is_syllable v y = is_stress v y.stress && leb 1 (length y.phones) && every is_phone y.phones

unfoldable pub is_said : ℕ → Word → Bool
is_said v w = is_word w.text && is_source w.source && every (is_syllable v) w.syllables
