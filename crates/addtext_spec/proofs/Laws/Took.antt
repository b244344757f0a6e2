-- The lines taken are the slots newly used and the lines that replaced an entry, since one goes for each of the latter.
-- Assumes nothing.
use Rattle.std.specs.Prelude.{ℕ, ◌+◌, ◌-◌, ◌≤◌, ◌≡◌, Bool, true, false, List, [], ◌∷◌, ◌++◌, length}
use Rattle.std.proofs.Common.{arith, ap, ◌∙◌, length-append}
use Rattle.texts.specs.Choice.{bit}
use Rattle.texts.specs.Lists.{some, every}
use Rattle.texts.specs.Text.{ascii}
use Rattle.data.specs.Sections.{is_phone_table}
use Rattle.slots_spec.specs.Slot.{Entry}
use Rattle.store_spec.specs.Store.{used, entries, same_key, keys_differ}
use Rattle.store_spec.specs.Adding.{without, adding}
use Rattle.store_spec.specs.Sound.{Sound}
use Rattle.store_spec.proofs.Sound.{entries_are}
use Rattle.store_spec.proofs.Result.{used_is}
use Rattle.store_spec.proofs.Laws.Keys.{keys_adding, one_goes}
use Rattle.answers.specs.Laws.Numbers.{refused_never}
use Rattle.addtext_spec.specs.Line.{Line, skipped, faulty, entry, read_line, behind_line, outcome}
use Rattle.addtext_spec.specs.Filling.{onward, filled, entries_of, line_entries, adding_all, replacing}
use Rattle.addtext_spec.specs.Grown.{past}
use Rattle.addtext_spec.proofs.Grown.{judged_as, all_added}

-- entries added in turn: those that replace one make no more of them
took : (new es : List Entry) → keys_differ es ≡ true → length (adding_all new es) + replacing new es ≡ length es + length new
unfolding adding_all replacing adding
took [] es d = omega arith
took (e ∷ more) es d =
    let ih = took more (adding e es) (keys_adding e es d) in
    let l = length-append (without e es) (e ∷ []) in
    let g = one_goes e es d in
    omega (arith, ih, l, g)

bit_few : (b : Bool) → bit b ≤ 1
bit_few true = omega arith
bit_few false = omega arith

replacing_few : (new es : List Entry) → replacing new es ≤ length new
unfolding replacing
replacing_few [] es = omega arith
replacing_few (e ∷ more) es = let ih = replacing_few more (adding e es) in let b = bit_few (some (same_key e) es) in omega (arith, ih, b)

-- lines that are all taken tell how many entries they have
all_taken : (table store : List ℕ) (n k : ℕ) (ls : List (List ℕ)) → (filled table store n k ls).answer.refusal ≡ 0
    → (filled table store n k ls).answer.value ≡ k + length (line_entries ls)
unfolding filled line_entries onward behind_line outcome entries_of
all_taken table store n k [] h = omega arith
all_taken table store n k (l ∷ ls) h = behind (read_line l) (λ c m. all_taken table c (n + 1) m ls) h
  where
    behind : (line : Line)
        → ((c : List ℕ) (m : ℕ) → (filled table c (n + 1) m ls).answer.refusal ≡ 0 → (filled table c (n + 1) m ls).answer.value ≡ m + length (line_entries ls))
        → (past table store n k ls line).answer.refusal ≡ 0 → (past table store n k ls line).answer.value ≡ k + length (entries_of line ++ line_entries ls)
    behind skipped ih h = ih store k h
    behind faulty ih h = absurd (omega (arith, h))
    behind (entry word tag phones) ih h =
        judged_as table store word tag phones
        (λ e f. rw e (ih _ (k + 1) (rw e at h) ∙ omega arith))
        (λ r e. refused_never r (rw e at h))

-- the numbers that the first step tells, as the code finds them
pub record Told (taken replaced before after : ℕ) : Type 0 where
  pub grows : before ≤ after
  pub few : after - before ≤ taken
  pub rest : taken - (after - before) ≡ replaced

module _ (table store : List ℕ) (ls : List (List ℕ)) (t : is_phone_table table ≡ true) (s : Sound store) (a : every ascii ls ≡ true)
    (h : (filled table store 1 0 ls).answer.refusal ≡ 0) where
  pub numbers :
      Told (filled table store 1 0 ls).answer.value (replacing (line_entries ls) (entries store)) (used store)
      (used (filled table store 1 0 ls).store)
  numbers =
      let g = all_added table t store 1 0 ls s a h in
      let d : keys_differ (entries store) ≡ true = rw (entries_are store s) s.keys in
      let k = took (line_entries ls) (entries store) d in
      let f = replacing_few (line_entries ls) (entries store) in
      let n = all_taken table store 1 0 ls h in
      let u = used_is store s in
      let v = used_is (filled table store 1 0 ls).store g.sound ∙ ap (λ (es : List Entry). length es) g.entries in
      record { grows = omega (arith, k, f, u, v); few = omega (arith, k, f, n, u, v); rest = omega (arith, k, f, n, u, v) }
