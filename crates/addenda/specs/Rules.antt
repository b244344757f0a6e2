-- The rules of the addenda, each one test that is computed over the whole table.
-- Assumes nothing.
use Rattle.std.specs.Prelude.{ℕ, ◌≡◌, refl, Bool, true, ◌&&◌, List, map, leb, ltb, length}
use Rattle.texts.specs.Lists.{every, some}
use Rattle.texts.specs.Text.{ascii, low, same, distinct}
use Rattle.addenda.specs.Addenda.{Addendum, addenda}

pub addenda_count : length addenda ≡ 42
unfolding addenda
addenda_count = refl

-- a phone has at most 3 bytes, all below 128
abbrev pub phone_fits : List ℕ → Bool
phone_fits x = leb (length x) 3 && ascii x

-- a word has at most 6 bytes and at most 8 phones, and all bytes are below 128
abbrev pub fits : Addendum → Bool
fits r = ltb r.tag 128 && leb (length r.word) 6 && ascii r.word && leb (length r.phones) 8 && every phone_fits r.phones

pub addenda_fit : every fits addenda ≡ true
unfolding addenda every ascii low
addenda_fit = refl

-- no two rows have one word
pub addenda_differ : distinct (map (λ (r : Addendum). r.word) addenda) ≡ true
unfolding addenda distinct some same
addenda_differ = refl
