-- What the test of an item of each kind says of its fields, one by one.
-- Assumes nothing.
use Rattle.std.specs.Prelude.{◌≤◌, ◌≡◌, Bool, true, ◌&&◌, length}
use Rattle.std.proofs.Math.Dec.{eqb, leb}
use borrow.Author.Tests.{eqb-true, leb-true}
use Rattle.texts.specs.Choice.{both_true}
use Rattle.texts.specs.Text.{ascii, is_word}
use Rattle.versions.specs.Versions.{is_sheet_version}
use Rattle.items_spec.specs.Item.{Item, is_source, is_word_item, is_syllable_item, is_phone_item, is_head_item}

pub record WordFields (i : Item) : Type 0 where
  pub kind : i.kind ≡ 1
  pub stress : i.stress ≡ 0
  pub prev : i.prev ≡ 0
  pub follow : i.follow ≡ 0
  pub mark : i.mark ≡ 0
  pub source : is_source i.source ≡ true
  pub text : is_word i.text ≡ true

pub record SyllableFields (i : Item) : Type 0 where
  pub kind : i.kind ≡ 2
  pub prev : i.prev ≡ 0
  pub follow : i.follow ≡ 0
  pub mark : i.mark ≡ 0
  pub source : i.source ≡ 0
  pub text : length i.text ≡ 0

pub record PhoneFields (i : Item) : Type 0 where
  pub kind : i.kind ≡ 3
  pub stress : i.stress ≡ 0
  pub first : i.first ≡ 0
  pub last : i.last ≡ 0
  pub mark : i.mark ≡ 0
  pub source : i.source ≡ 0
  pub short : length i.text ≤ 15
  pub low : ascii i.text ≡ true

pub record HeadFields (i : Item) : Type 0 where
  pub kind : i.kind ≡ 0
  pub version : is_sheet_version i.stress ≡ true
  pub next : i.next ≡ 0
  pub mark : i.mark ≡ 0
  pub source : i.source ≡ 0
  pub text : length i.text ≡ 0

-- six tests that all say yes
abbrev Yes : Bool → Type 0
Yes b = b ≡ true

six_true : (a b c d e f : Bool) → Yes (a && b && c && d && e && f) → Yes a × Yes b × Yes c × Yes d × Yes e × Yes f
six_true a b c d e f h =
    let u = both_true (a && b && c && d && e) f h in
    let v = both_true (a && b && c && d) e u.0 in
    let w = both_true (a && b && c) d v.0 in
    let x = both_true (a && b) c w.0 in
    let y = both_true a b x.0 in
    (y.0, y.1, x.1, w.1, v.1, u.1)

module _ (i : Item) where
  abbrev no_mark : Bool
  no_mark = eqb i.mark 0

  abbrev no_source : Bool
  no_source = eqb i.source 0

  pub word_fields : is_word_item i ≡ true → WordFields i
  unfolding is_word_item
  word_fields h =
      let kind = eqb i.kind 1 in
      let stress = eqb i.stress 0 in
      let prev = eqb i.prev 0 in
      let follow = eqb i.follow 0 in
      let source = is_source i.source in
      let a = both_true (kind && stress && prev && follow && no_mark && source) (is_word i.text) h in
      let t = six_true kind stress prev follow no_mark source a.0 in
      record {
        kind = eqb-true i.kind 1 t.0;
        stress = eqb-true i.stress 0 t.1;
        prev = eqb-true i.prev 0 t.2;
        follow = eqb-true i.follow 0 t.3;
        mark = eqb-true i.mark 0 t.4;
        source = t.5;
        text = a.1;
      }

  pub syllable_fields : is_syllable_item i ≡ true → SyllableFields i
  unfolding is_syllable_item
  syllable_fields h =
      let t = six_true (eqb i.kind 2) (eqb i.prev 0) (eqb i.follow 0) no_mark no_source (eqb (length i.text) 0) h in
      record {
        kind = eqb-true i.kind 2 t.0;
        prev = eqb-true i.prev 0 t.1;
        follow = eqb-true i.follow 0 t.2;
        mark = eqb-true i.mark 0 t.3;
        source = eqb-true i.source 0 t.4;
        text = eqb-true (length i.text) 0 t.5;
      }

  pub phone_fields : is_phone_item i ≡ true → PhoneFields i
  unfolding is_phone_item
  phone_fields h =
      let kind = eqb i.kind 3 in
      let stress = eqb i.stress 0 in
      let first = eqb i.first 0 in
      let last = eqb i.last 0 in
      let short = leb (length i.text) 15 in
      let a = both_true (kind && stress && first && last && no_mark && no_source && short) (ascii i.text) h in
      let b = both_true (kind && stress && first && last && no_mark && no_source) short a.0 in
      let t = six_true kind stress first last no_mark no_source b.0 in
      record {
        kind = eqb-true i.kind 3 t.0;
        stress = eqb-true i.stress 0 t.1;
        first = eqb-true i.first 0 t.2;
        last = eqb-true i.last 0 t.3;
        mark = eqb-true i.mark 0 t.4;
        source = eqb-true i.source 0 t.5;
        short = leb-true (length i.text) 15 b.1;
        low = a.1;
      }

  pub head_fields : is_head_item i ≡ true → HeadFields i
  unfolding is_head_item
  head_fields h =
      let t = six_true (eqb i.kind 0) (is_sheet_version i.stress) (eqb i.next 0) no_mark no_source (eqb (length i.text) 0) h in
      record {
        kind = eqb-true i.kind 0 t.0;
        version = t.1;
        next = eqb-true i.next 0 t.2;
        mark = eqb-true i.mark 0 t.3;
        source = eqb-true i.source 0 t.4;
        text = eqb-true (length i.text) 0 t.5;
      }
