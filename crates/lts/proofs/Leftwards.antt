-- The loop that goes leftwards over a word: the phones said stand at the end of the list, and the bytes left decide what comes before them. Assumes nothing.
use Prim.Native.Nat.{ℕ, zero, suc, ◌+◌, ◌-◌, ◌*◌, ◌/◌, ◌≤◌, ◌<◌}
use Prim.Native.Nat.{zero-le}
use native.Mathlib.Nat.{not-suc-le-zero}
use native.Mathlib.Omega.{arith}
use mathlib.Core.Path.{◌≡◌, refl, sym, ap, ◌∙◌}
use mathlib.Core.Bool.{Bool, true, false, ◌&&◌}
use lib.Dec.{leb, ltb}
use borrow.Author.Tests.{ltb-true, ltb-false}
use mathlib.Core.List.{List, [], ◌∷◌, ◌++◌, map, append_assoc, append-nil}
use mathlib.Core.Option.{Option, none, some}
use lib.ListN.{length, get_or, drop, length-append, length-map}
use Rattle.texts.specs.Choice.{when◌then◌else◌, cases}
use Rattle.texts.specs.Lists.{place}
use Rattle.texts.specs.Text.{bytes, folded, same, is}
use Rattle.records.specs.Fields.{u16_at, u32_at}
use Rattle.cells.specs.Cells.{cell, cells_of}
use Rattle.trees.specs.Walk.{walk}
use Rattle.lts_spec.specs.Letters.{padded, window, spoken, behind, leaf, letter, joined, up_to}
use Rattle.lts_spec.proofs.Letters.{spoken_none, spoken_two, spoken_one}
use Rattle.lts.specs.Puts.{Puts, Spells}
use Rattle.std.proofs.Common.{Option as Told, Some, None}

pub padded_length : (word : List ℕ) → length (padded word) ≡ length word + 8
unfolding padded
padded_length word = omega (arith, length-append (map folded word) (bytes "#000"), length-map word folded)

spoken_short : (x : List ℕ) → length (spoken x) ≤ 2
spoken_short x =
    cases (same x (bytes "epsilon"))
    (λ e. rw (spoken_none x e) (omega arith))
    (λ e. cases (ltb (place (is 45) x) (length x))
    (λ f. rw (spoken_two x e (ltb-true (place (is 45) x) (length x) f)) (omega arith))
    (λ f. rw (spoken_one x e (ltb-false (place (is 45) x) (length x) f)) (omega arith)))

cells_append : (ps qs : List (List ℕ)) → cells_of (ps ++ qs) ≡ cells_of ps ++ cells_of qs
unfolding cells_of
cells_append [] qs = refl
cells_append (p ∷ ps) qs = rw (cells_append ps qs) (sym (append_assoc (cell p) (cells_of ps) (cells_of qs)))

behind_nil : (o : Option (List (List ℕ))) → behind o [] ≡ o
behind_nil none = refl
behind_nil (some ps) = rw append-nil

behind_twice : (o : Option (List (List ℕ))) (ps said : List (List ℕ)) → behind (behind o ps) said ≡ behind o (ps ++ said)
behind_twice none ps said = refl
behind_twice (some qs) ps said = rw append_assoc

module _ (phones index model : List ℕ) where
  -- a byte gives at most two phones
  letter_short : (text : List ℕ) (k : ℕ) (ps : List (List ℕ)) → letter phones index model text k ≡ some ps → length ps ≤ 2
  unfolding letter
  letter_short text k ps e =
      byte (leb 97 (get_or text k 0) && leb (get_or text k 0) 122)
      (walk model (window text k) (u32_at phones 0) (length model / 6) (u16_at index (2 * (get_or text k 0 - 97)))) e
    where
      short : (qs : List (List ℕ)) → length qs ≤ 2 → ◌≡◌ {A = Option (List (List ℕ))} (some qs) (some ps) → length ps ≤ 2
      short qs h e = let z : qs ≡ ps = cc in rw (← z) h

      walked : (w : Told ℕ) → leaf phones index model w ≡ some ps → length ps ≤ 2
      walked (Some p) e = short _ (spoken_short _) e
      walked None e = let z : ◌≡◌ {A = ℕ} 0 1 = cc in absurd (omega arith)

      byte : (b : Bool) (w : Told ℕ) → (when b then leaf phones index model w else some []) ≡ some ps → length ps ≤ 2
      byte true w e = walked w e
      byte false w e = short [] zero-le e

  -- the bytes left, by the last of them
  up_to_turn : (text : List ℕ) (left : ℕ) → 0 < left
      → up_to phones index model text left
      ≡ (when is 35 (get_or text (left + 3) 0) then some [] else joined phones index model (up_to phones index model text (left - 1)) (letter phones index model text (left + 3)))
  unfolding up_to
  up_to_turn text zero h = absurd (not-suc-le-zero h)
  up_to_turn text (suc n) h = let e : suc n - 1 ≡ n = omega arith in let f : suc n + 3 ≡ n + 4 = omega arith in rw (e, f)

  -- after the bytes from `left` on: n bytes in all, the list at first list₀
  pub record Spelling (text list₀ list : List ℕ) (n left at : ℕ) : Type 0 where
    pub said : List (List ℕ)
    pub cells : drop (16 * at) list ≡ cells_of said ++ drop (16 * 94) list₀
    pub count : at + length said ≡ 94
    pub room : 2 * left ≤ at
    pub rest : up_to phones index model text n ≡ behind (up_to phones index model text left) said

  pub spelling_start : (text list : List ℕ) (n : ℕ) → n ≤ 47 → Spelling text list list n n 94
  unfolding cells_of
  spelling_start text list n h =
      record { said = []; cells = refl; count = refl; room = omega arith; rest = sym (behind_nil (up_to phones index model text n)) }

  module _ (text list₀ list : List ℕ) (n left at : ℕ) (s : Spelling text list₀ list n left at) where
    -- nothing more comes before the phones said
    spelling_done : (place : ℕ) → up_to phones index model text left ≡ some [] → Spells (up_to phones index model text n) place list₀ (Some (record { first = at; stopped = place })) list
    spelling_done place e =
        let c = s.count in
        let f : 94 - length s.said ≡ at = omega arith in
        rw (s.rest, e) (rw f, (omega arith, rw f s.cells))

    pub spelling_end : (place : ℕ) → left ≤ 0 → Spells (up_to phones index model text n) place list₀ (Some (record { first = at; stopped = place })) list
    unfolding up_to
    spelling_end place h = let e : left ≡ 0 = omega arith in spelling_done place (rw e)

    pub spelling_stop : (place : ℕ) → 0 < left → is 35 (get_or text (left + 3) 0) ≡ true → Spells (up_to phones index model text n) place list₀ (Some (record { first = at; stopped = place })) list
    spelling_stop place h e = spelling_done place (up_to_turn text left h ∙ rw e)

    module _ (h : 0 < left) (e : is 35 (get_or text (left + 3) 0) ≡ false) (list' : List ℕ) (r : Told ℕ) where
      left_turn : (o : Option (List (List ℕ))) → letter phones index model text (left + 3) ≡ o
          → up_to phones index model text n ≡ behind (joined phones index model (up_to phones index model text (left - 1)) o) s.said
      left_turn o eo = s.rest ∙ rw (up_to_turn text left h, e, eo)

      -- a damaged tree
      pub spelling_damaged : (place : ℕ) → Puts (letter phones index model text (left + 3)) list at r list' → r ≡ None
          → Spells (up_to phones index model text n) place list₀ None list'
      spelling_damaged place p er = go (letter phones index model text (left + 3)) refl p
        where
          go : (o : Option (List (List ℕ))) → letter phones index model text (left + 3) ≡ o → Puts o list at r list'
              → Spells (up_to phones index model text n) place list₀ None list'
          go none eo p = rw (left_turn none eo) refl
          go (some ps) eo p = let q = p.0 in let z : ◌≡◌ {A = ℕ} 0 1 = cc in absurd (omega arith)

      -- one byte more
      pub spelling_turn : (first : ℕ) → Puts (letter phones index model text (left + 3)) list at r list' → r ≡ Some first
          → Spelling text list₀ list' n (left - 1) first
      spelling_turn first p er = go (letter phones index model text (left + 3)) refl p
        where
          go : (o : Option (List (List ℕ))) → letter phones index model text (left + 3) ≡ o → Puts o list at r list'
              → Spelling text list₀ list' n (left - 1) first
          go none eo p = let z : ◌≡◌ {A = ℕ} 0 1 = cc in absurd (omega arith)
          go (some ps) eo p =
              let q = p.0 in
              let m = p.1.0 in
              let f : first ≡ at - length ps = cc in
              let k = letter_short text (left + 3) ps eo in
              let c = s.count in
              let w = s.room in
              record {
                said = ps ++ s.said;
                cells = rw (f, cells_append, append_assoc) (p.1.1 ∙ ap (λ (x : List ℕ). cells_of ps ++ x) s.cells);
                count = rw length-append (omega arith);
                room = omega arith;
                rest = left_turn (some ps) eo ∙ behind_twice (up_to phones index model text (left - 1)) ps s.said;
              }
