-- A phone that may be added has at most 15 bytes, each below 128.
-- Assumes nothing.
use Rattle.std.specs.Prelude.{ℕ, ◌<◌, ◌≡◌, refl, Bool, true, false, ◌&&◌, List, [], ◌∷◌, leb, eqb, length, get_or}
use Rattle.std.proofs.Common.{arith, sym, subst, leb-true, ltb-true}
use Rattle.texts.specs.Choice.{both_true, cases, never}
use Rattle.texts.specs.Lists.{every, every_at, every_from, some, place, place_passes}
use Rattle.texts.specs.Text.{ascii, same, same_true, is_phone, phone_from}
use Rattle.phoneset.specs.Phones.{Phone, phones, no_phone, row_of, is_known}
use Rattle.phoneset.specs.Rules.{fits, phones_fit, phone_count}
use Rattle.data.specs.Sections.{is_phone_table, table_phones, is_listed, length_table, table_fits}
use Rattle.lexicon_spec.specs.Adding.{may_add}

row_phone : (r : Phone) → fits r ≡ true → is_phone r.name ≡ true
row_phone r h =
    let a = both_true (leb (length r.name) 4 && ascii r.name && eqb (length r.features) 8) (ascii r.features) h in
    let b = both_true (leb (length r.name) 4 && ascii r.name) (eqb (length r.features) 8) a.0 in
    let c = both_true (leb (length r.name) 4) (ascii r.name) b.0 in
    let l = leb-true (length r.name) 4 c.0 in
    phone_from r.name (omega arith) c.1

-- a string that some string of a list is, is that string
some_is : (p : List ℕ) (l : List (List ℕ)) → (P : List ℕ → Bool) → every P l ≡ true → some (same p) l ≡ true → P p ≡ true
unfolding some every
some_is p [] P e h = never false h refl
some_is p (x ∷ xs) P e h =
    let b = both_true (P x) (every P xs) e in
    let ih = some_is p xs P b.1 in
    cases (same p x)
    (λ s. subst (λ (y : List ℕ). P y ≡ true) (sym (same_true p x s)) b.0)
    (λ s. ih (rw s at h))

listed_phone : (table p : List ℕ) → is_phone_table table ≡ true → is_listed table p ≡ true → is_phone p ≡ true
unfolding is_listed
listed_phone table p t h = some_is p (table_phones table) is_phone (every_from is_phone (table_phones table) [] (λ k l. one k l)) h
  where
    one : (k : ℕ) → k < length (table_phones table) → is_phone (get_or (table_phones table) k []) ≡ true
    one k l = let n = length_table table in let f = table_fits table k t (omega arith) in phone_from (get_or (table_phones table) k []) f.short f.low

known_phone : (p : List ℕ) → is_known p ≡ true → is_phone p ≡ true
unfolding is_known row_of
known_phone p h =
    let test : Phone → Bool = λ r. same r.name p in
    let l = ltb-true (place test phones) 50 h in
    let c = phone_count in
    let k : place test phones < length phones = omega arith in
    let s = same_true (get_or phones (place test phones) no_phone).name p (place_passes test phones no_phone k) in
    let f = every_at fits phones no_phone phones_fit (place test phones) k in
    subst (λ (y : List ℕ). is_phone y ≡ true) s (row_phone (get_or phones (place test phones) no_phone) f)

pub may_phone : (table p : List ℕ) → is_phone_table table ≡ true → may_add table p ≡ true → is_phone p ≡ true
unfolding may_add
may_phone table p t h = cases (is_listed table p) (λ e. listed_phone table p t e) (λ e. known_phone p (rw e at h))

pub may_phones : (table : List ℕ) (ps : List (List ℕ)) → is_phone_table table ≡ true → every (may_add table) ps ≡ true → every is_phone ps ≡ true
unfolding every
may_phones table [] t h = refl
may_phones table (p ∷ ps) t h =
    let b = both_true (may_add table p) (every (may_add table) ps) h in
    rw (may_phone table p t b.0) (may_phones table ps t b.1)
