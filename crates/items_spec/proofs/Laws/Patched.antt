-- A u16 put over a number of an item: the item has it, and is as it was in everything else.
-- Assumes nothing.
use Rattle.std.specs.Prelude.{ℕ, ◌+◌, ◌*◌, ◌%◌, ◌/◌, ◌≤◌, ◌<◌, ◌≡◌, ◌≢◌, List, eqb, length, get_or, drop, set}
use Rattle.std.proofs.Common.{arith, ◌∙◌, eqb-true}
use Rattle.std.proofs.Math.Seq.{get_or-set_other, drop-set-lt}
use Rattle.std.proofs.lemmas.Bool.{eqb-false}
use Rattle.texts.specs.Choice.{when◌then◌else◌, cases}
use Rattle.records.specs.Fields.{u16_at, put16, u16_put_same, u16_put_other}
use Rattle.items_spec.specs.Item.{item_of, is_clean}

-- a byte that it does not cover, and all bytes behind it
module _ (r : List ℕ) (o v : ℕ) where
  byte_kept : (k : ℕ) → k ≢ o → k ≢ o + 1 → get_or (put16 r o v) k 0 ≡ get_or r k 0
  unfolding put16
  byte_kept k n₁ n₂ = get_or-set_other (set r o (v % 256)) (o + 1) k (v / 256) 0 n₂ ∙ get_or-set_other r o k (v % 256) 0 n₁

  rest_kept : (k : ℕ) → o + 1 < k → drop k (put16 r o v) ≡ drop k r
  unfolding put16
  rest_kept k h = drop-set-lt k (set r o (v % 256)) (o + 1) (v / 256) h ∙ drop-set-lt k r o (v % 256) (omega arith)

-- so what is past the text is as clean as before
pub patch_clean : (r : List ℕ) (o v : ℕ) → length r ≡ 64 → o ≤ 12 → is_clean (put16 r o v) ≡ is_clean r
unfolding is_clean
patch_clean r o v l h = rw (byte_kept r o v 16 (omega arith) (omega arith), rest_kept r o v (17 + get_or r 16 0) (omega arith))

-- number n of an item, counted in u16s from its front: 1 next to 6 follow
module _ (r : List ℕ) (n v : ℕ) (long : length r ≡ 64) (from : 1 ≤ n) (to : n ≤ 6) (small : v < 65536) where
  number : (m : ℕ) → u16_at (put16 r (2 * n) v) (2 * m) ≡ (when eqb m n then v else u16_at r (2 * m))
  number m =
      cases (eqb m n)
      (λ e. let s = eqb-true m n e in rw (e, s) (u16_put_same r (2 * n) v (omega arith) small))
      (λ e. let d = eqb-false m n e in rw e (u16_put_other r (2 * n) (2 * m) v (omega arith) (omega arith) (omega arith)))

  -- the item whose number n is v
  patched : item_of (put16 r (2 * n) v)
      ≡ record {
        kind = (item_of r).kind;
        stress = (item_of r).stress;
        next = when eqb 1 n then v else (item_of r).next;
        first = when eqb 2 n then v else (item_of r).first;
        last = when eqb 3 n then v else (item_of r).last;
        parent = when eqb 4 n then v else (item_of r).parent;
        prev = when eqb 5 n then v else (item_of r).prev;
        follow = when eqb 6 n then v else (item_of r).follow;
        mark = (item_of r).mark;
        source = (item_of r).source;
        text = (item_of r).text;
      }
  unfolding item_of
  patched =
      rw (
        byte_kept r (2 * n) v 0 (omega arith) (omega arith),
        byte_kept r (2 * n) v 1 (omega arith) (omega arith),
        number 1,
        number 2,
        number 3,
        number 4,
        number 5,
        number 6,
        byte_kept r (2 * n) v 14 (omega arith) (omega arith),
        byte_kept r (2 * n) v 15 (omega arith) (omega arith),
        byte_kept r (2 * n) v 16 (omega arith) (omega arith),
        rest_kept r (2 * n) v 17 (omega arith),
      )

-- each of the six
module _ (r : List ℕ) (v : ℕ) (long : length r ≡ 64) (small : v < 65536) where
  pub patch_next : item_of (put16 r 2 v) ≡ record { kind = (item_of r).kind; stress = (item_of r).stress; next = v; first = (item_of r).first; last = (item_of r).last; parent = (item_of r).parent; prev = (item_of r).prev; follow = (item_of r).follow; mark = (item_of r).mark; source = (item_of r).source; text = (item_of r).text }
  patch_next = patched r 1 v long (omega arith) (omega arith) small

  pub patch_first : item_of (put16 r 4 v) ≡ record { kind = (item_of r).kind; stress = (item_of r).stress; next = (item_of r).next; first = v; last = (item_of r).last; parent = (item_of r).parent; prev = (item_of r).prev; follow = (item_of r).follow; mark = (item_of r).mark; source = (item_of r).source; text = (item_of r).text }
  patch_first = patched r 2 v long (omega arith) (omega arith) small

  pub patch_last : item_of (put16 r 6 v) ≡ record { kind = (item_of r).kind; stress = (item_of r).stress; next = (item_of r).next; first = (item_of r).first; last = v; parent = (item_of r).parent; prev = (item_of r).prev; follow = (item_of r).follow; mark = (item_of r).mark; source = (item_of r).source; text = (item_of r).text }
  patch_last = patched r 3 v long (omega arith) (omega arith) small

  pub patch_parent : item_of (put16 r 8 v) ≡ record { kind = (item_of r).kind; stress = (item_of r).stress; next = (item_of r).next; first = (item_of r).first; last = (item_of r).last; parent = v; prev = (item_of r).prev; follow = (item_of r).follow; mark = (item_of r).mark; source = (item_of r).source; text = (item_of r).text }
  patch_parent = patched r 4 v long (omega arith) (omega arith) small

  pub patch_prev : item_of (put16 r 10 v) ≡ record { kind = (item_of r).kind; stress = (item_of r).stress; next = (item_of r).next; first = (item_of r).first; last = (item_of r).last; parent = (item_of r).parent; prev = v; follow = (item_of r).follow; mark = (item_of r).mark; source = (item_of r).source; text = (item_of r).text }
  patch_prev = patched r 5 v long (omega arith) (omega arith) small

  pub patch_follow : item_of (put16 r 12 v) ≡ record { kind = (item_of r).kind; stress = (item_of r).stress; next = (item_of r).next; first = (item_of r).first; last = (item_of r).last; parent = (item_of r).parent; prev = (item_of r).prev; follow = v; mark = (item_of r).mark; source = (item_of r).source; text = (item_of r).text }
  patch_follow = patched r 6 v long (omega arith) (omega arith) small
