-- What a reader takes at a position of a section: a byte, a u32, a string.
-- Assumes nothing.
use Rattle.std.specs.Prelude.{ℕ, ◌+◌, ◌-◌, ◌≤◌, ◌<◌, Bool, true, false, ◌&&◌, List, leb, ltb, length, Option, Some, None, MatchOption, IsSome, is_some, slice_range, take, drop}
use Rattle.std.specs.Borrow.{Bor}
use native.Mathlib.Omega.{arith}
use Rattle.std.proofs.Math.Path.{◌≡◌, refl, sym}
use Rattle.std.proofs.Common.{◌∙◌, ap}
use Rattle.std.proofs.Math.ListN.{get_or}
use borrow.Author.Tests.{leb-true, leb-false, ltb-true}
use Rattle.texts.specs.Choice.{when◌then◌else◌, cases, both_true, never}
use Rattle.records.specs.Fields.{u32_at}

-- a byte, and where the reader then stands
unfoldable pub byte_at : List ℕ → ℕ → Option (ℕ × ℕ)
byte_at s at = when ltb at (length s) then Some (get_or s at 0, at + 1) else None

-- a u32, and where the reader then stands
unfoldable pub number_at : List ℕ → ℕ → Option (ℕ × ℕ)
number_at s at = when leb (at + 4) (length s) then Some (u32_at s at, at + 4) else None

-- the string at a byte lies inside its section, and its length is at most 15
unfoldable pub fits : List ℕ → ℕ → Bool
fits s at = ltb (get_or s at 0) (length s - at) && leb (get_or s at 0) 15

-- a string that fits
pub record Fits (s : List ℕ) (at : ℕ) : Type 0 where
  pub inside : at + (1 + get_or s at 0) ≤ length s
  pub short : get_or s at 0 ≤ 15

pub string_fits : (s : List ℕ) (at : ℕ) → fits s at ≡ true → Fits s at
unfolding fits
string_fits s at h =
    let b = both_true (ltb (get_or s at 0) (length s - at)) (leb (get_or s at 0) 15) h in
    let f = ltb-true (get_or s at 0) (length s - at) b.0 in
    record { inside = omega arith; short = leb-true (get_or s at 0) 15 b.1 }

-- a string, of any bytes: where its text starts, and where it ends and the reader then stands
unfoldable pub string_at : List ℕ → ℕ → Option (ℕ × ℕ)
string_at s at = when fits s at then Some (at + 1, at + 1 + get_or s at 0) else None

-- an answer is what there was to take, and the reader then stands behind it; or there was nothing, and it stands where it stood
abbrev pub Takes : Option (ℕ × ℕ) → ℕ → Option ℕ → ℕ → Type 0
Takes there at r to = MatchOption r ((there ≡ None) × (to ≡ at)) (λ v. there ≡ Some (v, to))

-- the same of the text of a string
abbrev pub TakesText : List ℕ → ℕ → Option (Bor (List ℕ)) → ℕ → Type 0
TakesText s at r to =
    MatchOption r ((string_at s at ≡ None) × (to ≡ at)) (λ text. (string_at s at ≡ Some (at + 1, to)) × (text.now ≡ slice_range s (at + 1) to))

-- a u32 was taken
pub record NumberTaken (s : List ℕ) (at n next : ℕ) : Type 0 where
  pub inside : at + 4 ≤ length s
  pub is : n ≡ u32_at s at
  pub stands : next ≡ at + 4

-- a string was taken
pub record StringTaken (s : List ℕ) (at from to : ℕ) : Type 0 where
  pub fit : fits s at ≡ true
  pub starts : from ≡ at + 1
  pub stands : to ≡ at + (1 + get_or s at 0)
  pub inside : to ≤ length s

-- the text of a string was taken
pub record TextTaken (s : List ℕ) (at to : ℕ) (text : List ℕ) : Type 0 where
  pub fit : fits s at ≡ true
  pub stands : to ≡ at + (1 + get_or s at 0)
  pub inside : to ≤ length s
  pub is : text ≡ take (get_or s at 0) (drop (at + 1) s)

-- two of the same that were taken have the same parts
parts : (a b c d : ℕ) → ◌≡◌ {A = Option (ℕ × ℕ)} (Some (a, b)) (Some (c, d)) → (a ≡ c) × (b ≡ d)
parts a b c d e = let p : ◌≡◌ {A = ℕ × ℕ} (a, b) (c, d) = cc in (ap (λ (q : ℕ × ℕ). q.0) p, ap (λ (q : ℕ × ℕ). q.1) p)

-- what each answer tells
module _ (s : List ℕ) (at : ℕ) where
  pub number_taken : {r : Option (ℕ × ℕ)} {n next : ℕ} → r ≡ number_at s at → r ≡ Some (n, next) → NumberTaken s at n next
  unfolding number_at
  number_taken {r} {n} {next} e g =
      cases (leb (at + 4) (length s))
      (λ h. let k = parts (u32_at s at) (at + 4) n next (rw h at (sym e ∙ g)) in record { inside = leb-true (at + 4) (length s) h; is = sym k.0; stands = sym k.1 })
      (λ h. let k : None ≡ Some (n, next) = rw h at (sym e ∙ g) in let z : ◌≡◌ {A = ℕ} 0 1 = cc in absurd (omega arith))

  pub number_broken : {r : Option (ℕ × ℕ)} → r ≡ number_at s at → r ≡ None → length s < at + 4
  unfolding number_at
  number_broken e g =
      cases (leb (at + 4) (length s))
      (λ h. let k : Some (u32_at s at, at + 4) ≡ None = rw h at (sym e ∙ g) in let z : ◌≡◌ {A = ℕ} 0 1 = cc in absurd (omega arith))
      (λ h. leb-false (at + 4) (length s) h)

  pub string_taken : {r : Option (ℕ × ℕ)} {from to : ℕ} → r ≡ string_at s at → r ≡ Some (from, to) → StringTaken s at from to
  unfolding string_at
  string_taken {r} {from} {to} e g =
      cases (fits s at)
      (λ h.
      let k = parts (at + 1) (at + 1 + get_or s at 0) from to (rw h at (sym e ∙ g)) in
      let i = (string_fits s at h).inside in
      record { fit = h; starts = sym k.0; stands = omega arith; inside = omega arith })
      (λ h. let k : None ≡ Some (from, to) = rw h at (sym e ∙ g) in let z : ◌≡◌ {A = ℕ} 0 1 = cc in absurd (omega arith))

  pub string_broken : {r : Option (ℕ × ℕ)} → r ≡ string_at s at → r ≡ None → fits s at ≡ false
  unfolding string_at
  string_broken e g =
      cases (fits s at)
      (λ h. let k : Some (at + 1, at + 1 + get_or s at 0) ≡ None = rw h at (sym e ∙ g) in let z : ◌≡◌ {A = ℕ} 0 1 = cc in absurd (omega arith))
      (λ h. h)

  pub text_taken : {to : ℕ} {text : List ℕ} → (string_at s at ≡ Some (at + 1, to)) × (text ≡ slice_range s (at + 1) to) → TextTaken s at to text
  text_taken {to} h =
      let t = string_taken refl h.0 in
      let n : to - (at + 1) ≡ get_or s at 0 = omega (arith, t.stands) in
      record { fit = t.fit; stands = t.stands; inside = t.inside; is = h.1 ∙ rw n }

  -- a text is taken of a string that fits, and of no other
  module _ (r : Option (Bor (List ℕ))) (to : ℕ) (h : TakesText s at r to) where
    pub text_fits : fits s at ≡ true → IsSome r
    text_fits f = is_taken r h
      where
        is_taken : (r : Option (Bor (List ℕ))) → TakesText s at r to → IsSome r
        is_taken None h = never (fits s at) f (string_broken refl h.0)
        is_taken (Some t) h = refl

    pub text_broken : is_some r ≡ false → fits s at ≡ false
    text_broken e = is_broken r h e
      where
        is_broken : (r : Option (Bor (List ℕ))) → TakesText s at r to → is_some r ≡ false → fits s at ≡ false
        is_broken None h e = string_broken refl h.0
        is_broken (Some t) h e = let z : true ≡ false = e in never true refl z

    pub text_passed : is_some r ≡ true → StringTaken s at (at + 1) to
    text_passed e = passed r h e
      where
        passed : (r : Option (Bor (List ℕ))) → TakesText s at r to → is_some r ≡ true → StringTaken s at (at + 1) to
        passed None h e = let z : false ≡ true = e in never false z refl
        passed (Some t) h e = string_taken refl h.0
