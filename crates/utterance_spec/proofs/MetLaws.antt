-- 01, Store and sheet: in a sound sheet every item up to "used" is met, and so is every phone.
-- Assumes nothing.
use Rattle.std.specs.Prelude.{ℕ, ◌≤◌, ◌≡◌, true, List, [], ◌∷◌, eqb}
use Rattle.std.proofs.Common.{arith, sym, ap, ◌∙◌, eqb-true}
use Rattle.texts.specs.Choice.{cases}
use Rattle.texts.specs.Lists.{some as any}
use Rattle.records.specs.Chain.{Distinct, all_map, distinct}
use Rattle.records.specs.Counted.{Within, all_met}
use Rattle.items_spec.specs.Item.{Item}
use Rattle.utterance_spec.specs.Tree.{phones_at, items_at, follow}
use Rattle.utterance_spec.specs.Sheet.{at, used}
use Rattle.utterance_spec.specs.Sound.{Placed, Sound}
use Rattle.utterance_spec.proofs.Laws.Chained.{phones_of, phones_are}

-- a phone among items is among their phones
among_phones : (S : ℕ → Item) (i : ℕ) (xs : List ℕ) → (S i).kind ≡ 3 → any (eqb i) xs ≡ true → any (eqb i) (phones_of S xs) ≡ true
unfolding any phones_of
among_phones S i [] k h = h
among_phones S i (x ∷ xs) k h =
    cases (eqb i x)
    (λ e. let z : (S x).kind ≡ 3 = ap (λ (y : ℕ). (S y).kind) (sym (eqb-true i x e)) ∙ k in rw (z, e))
    (λ e.
    let ih = among_phones S i xs k (rw e at h) in
    cases (eqb (S x).kind 3) (λ f. rw (f, e, ih)) (λ f. rw (f, ih)))

-- each item of a sound sheet is met, each phone among the phones, and no phone twice
pub item_met : (b : List ℕ) (s : Sound b) (i : ℕ) → 1 ≤ i → i ≤ used b → any (eqb i) (items_at s.words) ≡ true
item_met b s i lo hi =
    all_met (used b) (items_at s.words) (all_map (Placed b) (Within (used b)) (items_at s.words) (λ n p. let r = p.real in (omega arith, p.inside)) s.each) s.once s.all i lo hi

pub phone_met : (b : List ℕ) (s : Sound b) (i : ℕ) → 1 ≤ i → i ≤ used b → (at b i).kind ≡ 3 → any (eqb i) (phones_at s.words) ≡ true
phone_met b s i lo hi k =
    rw (← phones_are (at b) s.words s.tree.words) (among_phones (at b) i (items_at s.words) k (item_met b s i lo hi))

pub phones_once : (b : List ℕ) (s : Sound b) → Distinct (phones_at s.words)
phones_once b s = (distinct (follow (at b)) 0 (phones_at s.words) s.onwards).1
