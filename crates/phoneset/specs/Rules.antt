-- The rules of the table of phones, each one test that is computed over the whole table.
-- Assumes nothing.
use Rattle.std.specs.Prelude.{ℕ, ◌<◌, ◌≡◌, refl, Bool, true, ◌&&◌, List, [], map, leb, eqb}
use Rattle.std.proofs.Math.ListN.{length, get_or}
use Rattle.texts.specs.Lists.{every, some, get_d_map}
use Rattle.texts.specs.Text.{ascii, low, same, distinct}
use Rattle.phoneset.specs.Phones.{Phone, phones, no_phone, encoded}

pub phone_count : length phones ≡ 50
unfolding phones
phone_count = refl

-- a name has at most 4 bytes, a row eight features, and all are below 128
abbrev pub fits : Phone → Bool
fits r = leb (length r.name) 4 && ascii r.name && eqb (length r.features) 8 && ascii r.features

pub phones_fit : every fits phones ≡ true
unfolding phones every ascii low
phones_fit = refl

-- no two rows have one name
pub phones_differ : distinct (map (λ (r : Phone). r.name) phones) ≡ true
unfolding phones distinct some same
phones_differ = refl

-- what the code reads of row n of its table
module _ (table : List (List ℕ)) (e : table ≡ map encoded phones) (n : ℕ) (h : n < 50) where
  pub row_at : get_or table n [] ≡ encoded (get_or phones n no_phone)
  row_at = rw e (get_d_map encoded phones n no_phone [] (rw phone_count h))
