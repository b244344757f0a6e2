-- Where one order of two add entry calls refuses neither, each is accepted in the other order.
-- Assumes nothing.
use Rattle.std.specs.Prelude.{ℕ, ◌+◌, ◌≤◌, ◌<◌, ◌≡◌, false, List, [], ◌∷◌, eqb}
use Rattle.std.proofs.Common.{arith, sym, ap, ◌∙◌}
use Rattle.std.proofs.lemmas.Bool.{eqb-false}
use Rattle.texts.specs.Choice.{cases, never}
use Rattle.texts.specs.Lists.{some}
use Rattle.store_spec.specs.Store.{entries, used, slots, count, largest, same_key}
use Rattle.store_spec.proofs.Sound.{sound}
use Rattle.store_spec.proofs.Sound.{is_sound_lem}
use Rattle.store_spec.proofs.Laws.Keys.{key_turn, key_flip, none_same}
use Rattle.answers.specs.declared.Answer.{Answer}
use Rattle.add_entry.specs.Accepted.{Taken}
use Rattle.add_entry.proofs.Accepted.{taken_accepted}
use Rattle.entry_order.specs.Calls.{Given, answer, after, AllAccepted}
use Rattle.entry_order.proofs.AnyOrder.{made, took, entered}
use Rattle.entry_order.proofs.Laws.Room.{has_room, free_slot, Behind, behind}

-- a call that passes its tests is accepted
told : (g : Given) (store : List ℕ) → Taken g.table store g.word g.tag g.phones g.exact → (answer g store).refusal ≡ 0
told g store t = ap (λ (a : Answer). a.refusal) (taken_accepted g.table store g.word g.tag g.phones g.exact t)

-- the premise of `other_order`
module _ (one two : Given) (store : List ℕ) (low : count store ≤ largest) (one_then_two : AllAccepted (one ∷ two ∷ []) store) where
  abbrev one_taken : Taken one.table store one.word one.tag one.phones one.exact
  one_taken = took one store one_then_two.0

  abbrev two_taken : Taken two.table (after one store) two.word two.tag two.phones two.exact
  two_taken = took two (after one store) one_then_two.1.0

  behind_one : Behind store (after one store) (made one)
  behind_one = behind store (after one store) (made one) (sound store one_taken.passed.stored) (entered one store one_then_two.0)

  -- two keys, the second's not there: a slot is unused behind the first
  slot_for_two : same_key (made two) (made one) ≡ false → some (same_key (made two)) (entries store) ≡ false → used (after one store) + 1 < slots store
  slot_for_two n k =
      let f = free_slot (after one store) (made two) two_taken.free (behind_one.others (made two) n ∙ k) in
      let s = behind_one.slots in
      omega (arith, f, s)

  room_for_two : some (same_key (made two)) (entries store) ≡ false → used store + 1 < slots store
  room_for_two k =
      cases (same_key (made two) (made one))
      (λ e. free_slot store (made one) one_taken.free (none_same (made one) (made two) (entries store) (key_turn (made two) (made one) e) k))
      (λ n.
      let l = slot_for_two n k in
      cases (some (same_key (made one)) (entries store))
      (λ e. let u = behind_one.known e in omega (arith, l, u))
      (λ e. let u = behind_one.new e in omega (arith, l, u)))

  pub two_first_lem : (answer two store).refusal ≡ 0
  two_first_lem =
      told two store (record {
        passed = record {
          tabled = two_taken.passed.tabled;
          stored = one_taken.passed.stored;
          rises = one_taken.passed.rises;
          texts = two_taken.passed.texts;
          known = two_taken.passed.known;
          few = two_taken.passed.few;
        };
        free = has_room store (made two) room_for_two;
      })

  behind_two : Behind store (after two store) (made two)
  behind_two = behind store (after two store) (made two) (sound store one_taken.passed.stored) (entered two store two_first_lem)

  room_for_one : some (same_key (made one)) (entries (after two store)) ≡ false → used (after two store) + 1 < slots (after two store)
  room_for_one k =
      cases (same_key (made two) (made one))
      (λ e. never (some (same_key (made one)) (entries (after two store))) (behind_two.its (made one) (key_turn (made two) (made one) e)) k)
      (λ n.
      let s = behind_two.slots in
      let m = sym (behind_two.others (made one) (key_flip (made two) (made one) n)) ∙ k in
      let f = free_slot store (made one) one_taken.free m in
      let u = behind_one.new m in
      cases (some (same_key (made two)) (entries store))
      (λ e. let v = behind_two.known e in omega (arith, s, f, v))
      (λ e. let v = behind_two.new e in let l = slot_for_two n e in omega (arith, s, u, v, l)))

  same_count : count (after two store) ≡ count (after one store)
  same_count =
      let n = eqb-false (count store) largest one_taken.passed.rises in
      let l : count store < largest = omega (arith, low, n) in
      (entered two store two_first_lem).count l ∙ sym ((entered one store one_then_two.0).count l)

  pub one_second : (answer one (after two store)).refusal ≡ 0
  one_second =
      told one (after two store) (record {
        passed = record {
          tabled = one_taken.passed.tabled;
          stored = is_sound_lem (after two store) (entered two store two_first_lem).sound;
          rises = ap (λ (n : ℕ). eqb n largest) same_count ∙ two_taken.passed.rises;
          texts = one_taken.passed.texts;
          known = one_taken.passed.known;
          few = one_taken.passed.few;
        };
        free = has_room (after two store) (made one) room_for_one;
      })
