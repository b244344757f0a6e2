-- Theorems about `specs/Appended.antt`: A word put last on a sound sheet with room for it: the sheet is sound, has the same version, reads as before and then that word, the last word
-- and the last phone are tied to it, and all other items keep their bytes.
-- Assumes nothing.
use Rattle.std.specs.Prelude.{ℕ, ◌+◌, ◌≤◌, ◌<◌, ◌≡◌, refl, ◌≢◌, true, List, [], ◌∷◌, ◌++◌, leb, length}
use Rattle.std.proofs.Common.{arith, sym, ◌∙◌, subst, length-append, leb-true}
use Rattle.std.proofs.Math.Path.{ap}
use Rattle.texts.specs.Choice.{both_true}
use Rattle.texts.specs.Lists.{from, length_from}
use Rattle.records.specs.Records.{record_at}
use Rattle.records.specs.Chain.{All, end_of, all_map, all_append, all_end}
use Rattle.items_spec.specs.Item.{Item, is_item}
use Rattle.utterance_spec.specs.Tree.{Word, put_last, WordAt, words_at, phones_at, items_at, Sung}
use Rattle.utterance_spec.specs.Sheet.{at, used, items, version, is_sheet_length, reading, page}
use Rattle.utterance_spec.specs.Sound.{Placed, Sound}
use Rattle.utterance_spec.specs.Append.{size, place_of, appended, is_said}
use Rattle.utterance_spec.proofs.Read.{reading_is}
use Rattle.utterance_spec.proofs.Laws.Behind.{all_both, all_from}
use Rattle.utterance_spec.proofs.Laws.Walked.{word_kinds}
use Rattle.utterance_spec.proofs.Laws.Places.{all_phones, all_words, phone_kinds}
use Rattle.utterance_spec.proofs.Laws.Grown.{Grown, back_end, grown_items, grown_once, grown_sung, grown_tree, grown_reads, grown_onwards, grown_backwards}
use Rattle.utterance_spec.proofs.Laws.Wrote.{said_parts}
use Rattle.utterance_spec.proofs.Laws.Bytes.{length_appended, appended_kept, word_record, phone_record, appended_grown, appended_head, appended_old, appended_new}
use Rattle.utterance_spec.specs.Appended.{Appended}

-- a sheet has at most 65536 bytes
pub few : (n : ℕ) → is_sheet_length n ≡ true → n ≤ 65536
unfolding is_sheet_length
few n h = leb-true n 65536 (both_true (leb 64 n) (leb n 65536) h).1

-- the last word and the last phone of a sound sheet
module _ (b : List ℕ) (s : Sound b) where
  within : All (λ (i : ℕ). i ≤ used b) (items_at s.words)
  within = all_map (Placed b) (λ (i : ℕ). i ≤ used b) (items_at s.words) (λ i p. p.inside) s.each

  pub last_word_in : (at b 0).last ≤ used b
  last_word_in =
      subst (λ (i : ℕ). i ≤ used b) (sym s.tree.top.last)
      (all_end (λ (i : ℕ). i ≤ used b) 0 (words_at s.words) (omega arith) (all_words (λ (i : ℕ). i ≤ used b) s.words within))

  pub last_phone_in : (at b 0).prev ≤ used b
  last_phone_in =
      subst (λ (i : ℕ). i ≤ used b) (sym (back_end (at b) s.words s.backwards))
      (all_end (λ (i : ℕ). i ≤ used b) 0 (phones_at s.words) (omega arith) (all_phones (λ (i : ℕ). i ≤ used b) s.words within))

  -- each is of its kind, if it is there
  kind_of : (k p : ℕ) (xs : List ℕ) → p ≡ end_of 0 xs → All (λ (x : ℕ). (at b x).kind ≡ k) xs → p ≢ 0 → (at b p).kind ≡ k
  kind_of k p xs e a r =
      subst (λ (i : ℕ). i ≢ 0 → (at b i).kind ≡ k) (sym e)
      (all_end (λ (i : ℕ). i ≢ 0 → (at b i).kind ≡ k) 0 xs (λ z. absurd (z refl)) (all_map (λ (i : ℕ). (at b i).kind ≡ k) (λ (i : ℕ). i ≢ 0 → (at b i).kind ≡ k) xs (λ i h z. h) a)) r

  pub last_word_kind : (at b 0).last ≢ 0 → (at b (at b 0).last).kind ≡ 1
  last_word_kind = kind_of 1 (at b 0).last (words_at s.words) s.tree.top.last (word_kinds (at b) s.words s.tree.words)

  pub last_phone_kind : (at b 0).prev ≢ 0 → (at b (at b 0).prev).kind ≡ 3
  last_phone_kind = kind_of 3 (at b 0).prev (phones_at s.words) (back_end (at b) s.words s.backwards) (phone_kinds (at b) s.words s.tree.words)

  pub last_apart : (at b 0).last ≢ 0 → (at b 0).last ≢ (at b 0).prev
  last_apart r e =
      let k = last_word_kind r in
      let l = last_phone_kind (λ z. r (e ∙ z)) in
      let z = ap (λ (i : ℕ). (at b i).kind) e in
      absurd (omega arith)

module _ (b : List ℕ) (w : Word) (s : Sound b) (may : is_said (version b) w ≡ true) (room : used b + size w < items b) where
  abbrev n : ℕ
  n = used b + 1

  abbrev c : List ℕ
  c = appended b w

  abbrev ws : List WordAt
  ws = s.words

  short : length b ≤ 65536
  short = few (length b) s.size

  g : Grown (at b) (at c) n (used b + size w) w
  g = appended_grown b w short room may (last_word_in b s) (last_phone_in b s) (last_apart b s)

  long : length c ≡ length b
  long = length_appended b w short room may (last_word_in b s) (last_phone_in b s) (last_apart b s)

  used_c : used c ≡ used b + size w
  used_c = ap (λ (i : Item). i.parent) g.head

  version_c : version c ≡ version b
  version_c = ap (λ (i : Item). i.stress) g.head

  real : n ≢ 0
  real z = absurd (omega arith)

  each : All (λ (i : ℕ). (i ≢ 0) × (i < n)) (items_at ws)
  each = all_map (Placed b) (λ (i : ℕ). (i ≢ 0) × (i < n)) (items_at ws) (λ i p. (p.real, (let h = p.inside in omega arith))) s.each

  its : items_at (ws ++ (place_of n w ∷ [])) ≡ items_at ws ++ from n (size w)
  its = grown_items (at b) (at c) n (used b + size w) w g real ws s.tree each

  placed_old : (i : ℕ) → Placed b i → Placed c i
  placed_old i p =
      let u = used_c in
      let h = p.inside in
      record {
        real = p.real;
        inside = omega arith;
        sound = appended_old b w short room may (last_word_in b s) (last_phone_in b s) (last_apart b s) (last_phone_kind b s) i p.real h p.sound;
      }

  placed_new : (i : ℕ) → ((n ≤ i) × (i < n + size w)) × (is_item (record_at 64 c i) ≡ true) → Placed c i
  placed_new i p =
      let u = used_c in
      let l = p.0.0 in
      let h = p.0.1 in
      record { real = λ z. absurd (omega arith); inside = omega arith; sound = p.1 }

  placed : All (Placed c) (items_at (ws ++ (place_of n w ∷ [])))
  placed =
      subst (λ (l : List ℕ). All (Placed c) l) (sym its)
      (all_append (Placed c) (items_at ws) (from n (size w)) (all_map (Placed b) (Placed c) (items_at ws) placed_old s.each)
      (all_map (λ (i : ℕ). ((n ≤ i) × (i < n + size w)) × (is_item (record_at 64 c i) ≡ true)) (Placed c) (from n (size w)) placed_new
      (all_both (λ (i : ℕ). (n ≤ i) × (i < n + size w)) (λ (i : ℕ). is_item (record_at 64 c i) ≡ true) (from n (size w)) (all_from n (size w))
      (appended_new b w short room may (last_word_in b s) (last_phone_in b s) (last_apart b s)))))

  sound_c : Sound c
  sound_c =
      record {
        size = rw long s.size;
        head = appended_head b w short room may (last_word_in b s) (last_phone_in b s) (last_apart b s) s.head;
        room = rw (used_c, long) room;
        words = ws ++ (place_of n w ∷ []);
        tree = grown_tree (at b) (at c) n (used b + size w) w g real ws s.tree each;
        all = ap (λ (l : List ℕ). length l) its ∙ length-append (items_at ws) (from n (size w)) ∙ rw (s.all, length_from n (size w)) (sym used_c);
        once = grown_once (at b) (at c) n (used b + size w) w g real ws s.tree each s.once;
        each = placed;
        sung = subst (λ (v : ℕ). Sung (at c) v (ws ++ (place_of n w ∷ []))) (sym version_c)
            (grown_sung (at b) (at c) n (used b + size w) w g real ws s.tree each (version b) s.sung (said_parts (version b) w may).2);
        onwards = grown_onwards (at b) (at c) n (used b + size w) w g real ws s.tree each s.backwards s.onwards;
        backwards = grown_backwards (at b) (at c) n (used b + size w) w g real ws s.tree each s.backwards;
      }

  pub append_law : Appended b (appended b w) w s
  unfolding sound_c
  append_law =
      let iw = last_word_in b s in
      let ip = last_phone_in b s in
      record {
        sound = sound_c;
        words = refl;
        says = grown_reads (at b) (at c) n (used b + size w) w g real ws s.tree each;
        grown = used_c;
        long = long;
        kept = λ j p i nw np. appended_kept b w short room may iw ip (last_apart b s) j (omega arith) nw np (λ h. absurd (omega arith));
        word = word_record b w short room may iw ip (last_apart b s);
        phone = phone_record b w short room may iw ip (last_apart b s);
        beyond = λ j h. appended_kept b w short room may iw ip (last_apart b s) j (omega arith) (omega arith) (omega arith) (λ k. h);
      }

  -- it reads as before, and then the word
  reads_c : reading (appended b w) ≡ reading b ++ (w ∷ [])
  reads_c = reading_is c append_law.sound ∙ append_law.says ∙ ap (λ (l : List Word). l ++ (w ∷ [])) (sym (reading_is b s))

  pub append_reads : page (appended b w) ≡ put_last w (page b)
  unfolding page
  append_reads = rw (version_c, ap (λ (i : Item). i.mark) g.head, reads_c)
