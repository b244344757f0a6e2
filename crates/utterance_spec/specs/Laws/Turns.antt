-- One walk over the items in reading order decides whether each is well placed, each syllable is sung and the phones
-- are chained: one law for a turn, an early stop and the end, and one that it asks what `is_sound` asks.
-- Assumes nothing.
use Prim.Native.Nat.{ℕ, zero, suc}
use Rattle.std.specs.Prelude.{Bool, ◌&&◌, List}
use Rattle.std.proofs.Math.Bool.{true}
use Rattle.std.proofs.Math.Dec.{eqb}
use Rattle.texts.specs.Choice.{when◌then◌else◌}
use Rattle.items_spec.specs.Item.{Item}
use Rattle.utterance_spec.specs.Sheet.{at, version, after, is_sung, is_placed}

-- an item x behind phone q: it is tied to q both ways if it is a phone; the phone that items behind it are tied to; and q as the last phone
module _ (S : ℕ → Item) where
  unfoldable pub is_tied : ℕ → ℕ → Bool
  is_tied q x = when eqb (S x).kind 3 then eqb (S q).follow x && eqb (S x).prev q else true

  unfoldable pub last_phone : ℕ → ℕ → ℕ
  last_phone q x = when eqb (S x).kind 3 then x else q

  unfoldable pub is_last : ℕ → Bool
  is_last q = eqb (S q).follow 0 && eqb (S 0).prev q

-- the one walk: item x behind phone q is as it should be; behind item p and phone q stand n such items, and then nothing
unfoldable pub is_met : List ℕ → ℕ → ℕ → Bool
is_met b q x = is_placed b x && (is_sung (at b) (version b) x && is_tied (at b) q x)

unfoldable pub is_ordered : List ℕ → ℕ → ℕ → ℕ → Bool
is_ordered b zero p q = eqb (after (at b) p) 0 && is_last (at b) q
is_ordered b (suc n) p q = is_met b q (after (at b) p) && is_ordered b n (after (at b) p) (last_phone (at b) q (after (at b) p))
