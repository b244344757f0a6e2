-- Theorems about `specs/Decided.antt`: 01, Store and sheet, and 02, S-9: `is_sound` decides whether a sheet is sound.
-- Assumes nothing.
use Rattle.std.specs.Prelude.{ℕ, zero, suc, ◌<◌, ◌≡◌, refl, ◌≢◌, true, not, ◌&&◌, List, [], ◌∷◌, eqb, leb, ltb, length}
use Rattle.std.proofs.Common.{arith, sym, ap, ◌∙◌, subst, eqb-true, eq-eqb, ne_eqb, leb-true, le-leb, ltb-true, lt-ltb}
use Rattle.std.proofs.lemmas.Bool.{eqb-false, not-true}
use Rattle.texts.specs.Choice.{both_true}
use Rattle.texts.specs.Lists.{every}
use Rattle.records.specs.Records.{record_at}
use Rattle.records.specs.Chain.{All, Linked, chain, chain_more, chain_linked, distinct, all_map}
use Rattle.versions.specs.Versions.{is_sheet_version}
use Rattle.items_spec.specs.Item.{Item, item_of, is_clean, is_phone_item, is_head_item, fits, is_item, is_head}
use Rattle.items_spec.proofs.Laws.Fields.{phone_fields, head_fields}
use Rattle.utterance_spec.specs.Tree.{WordAt, items_at, Tree}
use Rattle.utterance_spec.specs.Sheet.{at, used, items, version, is_sheet_length, after, is_parent, is_sibling, is_sung, is_chained, is_placed, walks, order, is_sound}
use Rattle.utterance_spec.specs.Sound.{Placed, Sound}
use Rattle.utterance_spec.proofs.Laws.Parsed.{Good, parsed}
use Rattle.utterance_spec.proofs.Laws.Walked.{Leaf, walked}
use Rattle.utterance_spec.proofs.Laws.Chained.{chained, is_chained_lem, sung, is_sung_lem}
use Rattle.utterance_spec.specs.Decided.{Tested}

-- a phone has no children
phone_leaf : (i : Item) → fits i ≡ true → i.kind ≡ 3 → (i.first ≡ 0) × (i.last ≡ 0)
unfolding fits
phone_leaf i h k =
    let e : fits i ≡ is_phone_item i = rw (ne_eqb i.kind 1 (omega arith), ne_eqb i.kind 2 (omega arith)) in
    let f = phone_fields i (sym e ∙ h) in
    (f.first, f.last)

pub leaf : (b : List ℕ) (n : ℕ) → is_item (record_at 64 b n) ≡ true → Leaf (at b) n
unfolding is_item at
leaf b n h = phone_leaf (item_of (record_at 64 b n)) (both_true (is_clean (record_at 64 b n)) (fits (item_of (record_at 64 b n))) h).1

-- item 0 is of no kind, has no sibling, a known version, and its state is 0
pub top : (b : List ℕ) → is_head (record_at 64 b 0) ≡ true → ((at b 0).kind ≡ 0) × ((at b 0).next ≡ 0) × (is_sheet_version (version b) ≡ true) × ((at b 0).mark ≡ 0)
unfolding is_head at
top b h =
    let f = head_fields (item_of (record_at 64 b 0)) (both_true (is_clean (record_at 64 b 0)) (is_head_item (item_of (record_at 64 b 0))) h).1 in
    (f.kind, f.next, f.version, f.mark)

-- what the test of one item of the walk says
pub placed : (b : List ℕ) (n : ℕ) → is_placed b n ≡ true → Placed b n × Good (at b) n
unfolding is_placed
placed b n h =
    let s = both_true (not (eqb n 0) && leb n (used b) && is_item (record_at 64 b n) && is_parent (at b) n) (is_sibling (at b) n) h in
    let p = both_true (not (eqb n 0) && leb n (used b) && is_item (record_at 64 b n)) (is_parent (at b) n) s.0 in
    let i = both_true (not (eqb n 0) && leb n (used b)) (is_item (record_at 64 b n)) p.0 in
    let u = both_true (not (eqb n 0)) (leb n (used b)) i.0 in (
      record { real = eqb-false n 0 (not-true (eqb n 0) u.0); inside = leb-true n (used b) u.1; sound = i.1 },
      record { parent = p.1; sibling = s.1; leaf = λ k. (leaf b n i.1 k).0 },
    )

pub is_placed_lem : (b : List ℕ) (n : ℕ) → Placed b n → Good (at b) n → is_placed b n ≡ true
unfolding is_placed
is_placed_lem b n p g = rw (ne_eqb n 0 p.real, le-leb n (used b) p.inside, p.sound, g.parent, g.sibling)

-- the walk finds a chain of such items, and every such chain is walked
pub walk_linked : (b : List ℕ) (n p : ℕ) → walks b n p ≡ true
    → Linked (after (at b)) p (chain (after (at b)) n p) × (length (chain (after (at b)) n p) ≡ n) × All (λ (i : ℕ). is_placed b i ≡ true) (chain (after (at b)) n p)
unfolding walks chain
walk_linked b zero p h = (eqb-true (after (at b) p) 0 h, refl, tt)
walk_linked b (suc n) p h =
    let q = after (at b) p in
    let w = both_true (is_placed b q) (walks b n q) h in
    let r = (placed b q w.0).0.real in
    let ih = walk_linked b n q w.1 in
    rw (chain_more (after (at b)) n p r) ((refl, r, ih.0), ap suc ih.1, (w.0, ih.2))

linked_walk : (b : List ℕ) (p : ℕ) (xs : List ℕ) → Linked (after (at b)) p xs → All (Placed b) xs → All (Good (at b)) xs → walks b (length xs) p ≡ true
unfolding walks
linked_walk b p [] h a g = eq-eqb (after (at b) p) 0 h
linked_walk b p (x ∷ xs) h a g =
    let ih = linked_walk b x xs h.2 a.1 g.1 in
    rw (h.0, is_placed_lem b x a.0 g.0, ih)

-- so it is sound if they are the items of a tree
tested_sound : (b xs : List ℕ) (ws : List WordAt) → is_sheet_length (length b) ≡ true → is_head (record_at 64 b 0) ≡ true → used b < items b → Tested b xs → Tree (at b) ws → xs ≡ items_at ws → Sound b
tested_sound b xs ws size head room h t e =
    let r : Tested b (items_at ws) = subst (λ (l : List ℕ). Tested b l) e h in
    let each = all_map (λ (i : ℕ). is_placed b i ≡ true) (Placed b) (items_at ws) (λ i e. (placed b i e).0) r.each in
    let c = chained (at b) ws t.words (all_map (Placed b) (λ (i : ℕ). i ≢ 0) (items_at ws) (λ i p. p.real) each) r.chained in
    record {
      size = size;
      head = head;
      room = room;
      words = ws;
      tree = t;
      all = r.all;
      once = (distinct (after (at b)) 0 (items_at ws) r.linked).1;
      each = each;
      sung = sung (at b) (version b) ws t.words r.sung;
      onwards = c.0;
      backwards = c.1;
    }

-- the decision, in both directions
pub sound : (b : List ℕ) → is_sound b ≡ true → Sound b
unfolding is_sound order
sound b h =
    let c = both_true (is_sheet_length (length b) && is_head (record_at 64 b 0) && ltb (used b) (items b) && is_parent (at b) 0 && walks b (used b) 0 && every (is_sung (at b) (version b)) (order b)) (is_chained (at b) 0 (order b)) h in
    let f = both_true (is_sheet_length (length b) && is_head (record_at 64 b 0) && ltb (used b) (items b) && is_parent (at b) 0 && walks b (used b) 0) (every (is_sung (at b) (version b)) (order b)) c.0 in
    let w = both_true (is_sheet_length (length b) && is_head (record_at 64 b 0) && ltb (used b) (items b) && is_parent (at b) 0) (walks b (used b) 0) f.0 in
    let p = both_true (is_sheet_length (length b) && is_head (record_at 64 b 0) && ltb (used b) (items b)) (is_parent (at b) 0) w.0 in
    let u = both_true (is_sheet_length (length b) && is_head (record_at 64 b 0)) (ltb (used b) (items b)) p.0 in
    let d = both_true (is_sheet_length (length b)) (is_head (record_at 64 b 0)) u.0 in
    let l = walk_linked b (used b) 0 w.1 in
    let z = top b d.1 in
    let r : Tested b (order b) = record { linked = l.0; all = l.1; each = l.2; sung = f.1; chained = c.1 } in
    let t = parsed (at b) (order b) z.0 z.1 p.1 l.0 (all_map (λ (i : ℕ). is_placed b i ≡ true) (Good (at b)) (order b) (λ i e. (placed b i e).1) l.2) in
    tested_sound b (order b) t.0 d.0 d.1 (ltb-true (used b) (items b) u.1) r t.1 t.2

-- the items of a sound sheet: their links agree, and they stand in one chain
pub linked : (b : List ℕ) (s : Sound b) → (is_parent (at b) 0 ≡ true) × Linked (after (at b)) 0 (items_at s.words) × All (Good (at b)) (items_at s.words)
linked b s =
    let z = top b s.head in
    walked (at b) s.words z.0 z.1 s.tree (all_map (Placed b) (Leaf (at b)) (items_at s.words) (λ i p. leaf b i p.sound) s.each)

-- their order is the one that is walked
pub order_is : (b : List ℕ) (s : Sound b) → order b ≡ items_at s.words
unfolding order
order_is b s = let n = s.all in chain_linked (after (at b)) (used b) 0 (items_at s.words) (linked b s).1 (omega arith)

pub is_sound_lem : (b : List ℕ) → Sound b → is_sound b ≡ true
unfolding is_sound
is_sound_lem b s =
    let l = linked b s in
    let ws = s.words in
    let w : walks b (used b) 0 ≡ true = subst (λ (n : ℕ). walks b n 0 ≡ true) s.all (linked_walk b 0 (items_at ws) l.1 s.each l.2) in
    let f = is_sung_lem (at b) (version b) ws s.tree.words s.sung in
    let c = is_chained_lem (at b) ws s.tree.words s.onwards s.backwards in
    rw (s.size, s.head, lt-ltb (used b) (items b) s.room, l.0, w, order_is b s, f, c)
