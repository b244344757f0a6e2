-- Two calls whose folded words differ: of each folded word, either list has the same calls.
-- Assumes nothing.
use Rattle.std.specs.Prelude.{◌≡◌, ◌≢◌, List, ℕ, [], ◌∷◌, map}
use Rattle.std.proofs.Math.Path.{sym}
use Rattle.std.proofs.Common.{◌∙◌}
use Rattle.texts.specs.Choice.{cases}
use Rattle.texts.specs.Text.{folded, same, same_true}
use Rattle.entry_order.specs.Calls.{Given, those, calls_of}

module _ (one two : Given) (differ : map folded one.word ≢ map folded two.word) where
  -- no folded word is that of both
  pub alike : (w : List ℕ) → calls_of w (one ∷ two ∷ []) ≡ calls_of w (two ∷ one ∷ [])
  unfolding those
  alike w =
      cases (same (map folded one.word) w)
      (λ p. cases (same (map folded two.word) w)
      (λ q. absurd (differ (same_true (map folded one.word) w p ∙ sym (same_true (map folded two.word) w q))))
      (λ q. rw (p, q)))
      (λ p. rw p)
