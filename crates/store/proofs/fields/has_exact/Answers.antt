-- `store::has_exact` meets its contract: `any` of the numbers from 1 to n. Assumes nothing.
use Rattle.std.proofs.Common.{arith, rules, tests, ◌≡◌, ℕ, zero, suc, ◌+◌, add-zero, ◌*◌, Bool, ◌||◌, List, refl, sym, ◌∙◌, get_or, eqb}
use Rattle.std.proofs.Math.Bool.{or-true}
use Rattle.std.specs.List.{list_any, range_with_len}
use Rattle.std.proofs.lemmas.Iterator.{YieldsList-from_range}
use Rattle.std.proofs.lemmas.Iterator.Search.{any_from_yields_List}
use Rattle.texts.specs.Choice.{cases}
use Rattle.store_spec.specs.Laws.Exact.{has_exact}
use Rattle.store_spec.proofs.Laws.Exact.{exact_at}
use Rattle.store.proofs.fields.has_exact.Goals as goal

-- the last number first
any_last : (f : ℕ → Bool) (a n : ℕ) → list_any f (range_with_len a (suc n)) ≡ (f (a + n) || list_any f (range_with_len a n))
any_last f a zero = rw add-zero refl
any_last f a (suc n) =
    let e : a + suc n ≡ a + 1 + n = omega arith in
    rw (e, any_last f (a + 1) n) (cases (f a) (λ t. rw t (sym (or-true (f (a + 1 + n))))) (λ t. rw t))

-- what the closure tells of slot k
abbrev told : List ℕ → ℕ → Bool
told b k = eqb (get_or b (512 * k + 52) 0) 1

any_exact : (b : List ℕ) (n : ℕ) → list_any (told b) (range_with_len 1 n) ≡ has_exact b n
unfolding has_exact
any_exact b zero = refl
any_exact b (suc n) = let e : 1 + n ≡ suc n = omega arith in any_last (told b) 1 n ∙ rw (e, exact_at b (suc n), any_exact b n)

pub returns : goal.returns
returns c =
    any_from_yields_List (told c.args.store.now) _ _ c.any.result c.any.ensures.ran
    (YieldsList-from_range 1 (c.args.n + 1) c.args.n refl (omega arith)) (λ x b q k. search (rules, tests))
    ∙ any_exact c.args.store.now c.args.n
