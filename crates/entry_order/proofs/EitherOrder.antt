-- 02, S-10, entry order between names: two accepted add entry calls whose folded words differ, in either order on equal stores,
-- leave every lookup with equal answers, and every say word with equal answers and equal sheets.
-- Assumes nothing.
use Rattle.std.specs.Prelude.{ℕ, ◌≡◌, ◌≢◌, List, [], ◌∷◌, map}
use Rattle.texts.specs.Text.{folded}
use Rattle.lookup.specs.Lookup.{lookup, looked_up}
use Rattle.pipeline_spec.specs.Pronounced.{Sections}
use Rattle.say_word.specs.SayWord.{say_word, sheet_after}
use Rattle.entry_order.specs.Calls.{Given, after, after_all, AllAccepted}
use Rattle.entry_order.proofs.AnyOrder.{any_order, any_order_said}
use Rattle.entry_order.proofs.Laws.Alike.{alike}

-- the premise: the folded words differ, and neither order refuses a call
module _ (one two : Given) (store : List ℕ)
    (differ : map folded one.word ≢ map folded two.word)
    (one_then_two : AllAccepted (one ∷ two ∷ []) store) (two_then_one : AllAccepted (two ∷ one ∷ []) store) where
  abbrev pub one_first : List ℕ
  one_first = after two (after one store)

  abbrev pub two_first : List ℕ
  two_first = after one (after two store)

  -- lookup: the answer, and every byte of the output
  pub either_order : (phones index dat word tag out : List ℕ)
      → (lookup phones index dat one_first word tag out ≡ lookup phones index dat two_first word tag out)
      × (looked_up phones index dat one_first word tag out ≡ looked_up phones index dat two_first word tag out)
  unfolding after_all
  either_order = any_order (one ∷ two ∷ []) (two ∷ one ∷ []) store (alike one two differ) one_then_two two_then_one

  -- say word: the answer, and every byte of the sheet
  pub either_order_said : (c : Sections) (sheet word tag : List ℕ)
      → (say_word c one_first sheet word tag ≡ say_word c two_first sheet word tag)
      × (sheet_after c one_first sheet word tag ≡ sheet_after c two_first sheet word tag)
  unfolding after_all
  either_order_said = any_order_said (one ∷ two ∷ []) (two ∷ one ∷ []) store (alike one two differ) one_then_two two_then_one
