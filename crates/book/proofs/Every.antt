-- Theorems about `specs/Every.antt`: 01, demand 3, and 02, S-9: one claim about every list of calls. The store that a list leaves holds the entries, and the sheet tells the words
-- and the version, of the book of what was accepted.
-- Each call keeps store and sheet sound and in step with the book, and the spare with what it may be accepted as; a list of calls is its calls in turn.
-- Assumes nothing.
use Rattle.std.specs.Prelude.{ℕ, ◌+◌, ◌≤◌, ◌<◌, ◌≡◌, refl, Bool, true, false, ◌≢◌, eqb, length}
use Rattle.std.proofs.Common.{arith, ◌∙◌}
use Rattle.std.proofs.Math.Path.{sym, ap}
use mathlib.Core.List.{List, [], ◌∷◌, ◌++◌}
use Rattle.std.proofs.Math.Option.{Option, none, some}
use borrow.Author.Tests.{eqb-true, eqb-false}
use Rattle.texts.specs.Choice.{when◌then◌else◌, cases}
use Rattle.slots_spec.specs.Slot.{Entry}
use Rattle.store_spec.specs.Store.{entries, count, with_count, largest, is_store_length}
use Rattle.new_store.specs.NewStore.{new_store, new_bytes as new_store_bytes}
use Rattle.store_spec.specs.Adding.{adding}
use Rattle.store_spec.proofs.Laws.Counts.{counted, counted_length, counted_entries, counted_count}
use Rattle.new_store.specs.Fresh.{fresh as fresh_store, fresh_sound, fresh_entries, fresh_count}
use Rattle.lexicon_spec.specs.Adding.{new_entry}
use Rattle.add_entry.specs.AddEntry.{add_entry, store_after}
use Rattle.add_entry.proofs.Accepted.{add_law, accepted_is}
use Rattle.lines.specs.Lines.{lines}
use Rattle.addtext_spec.specs.Filling.{text_filled, line_entries, adding_all}
use Rattle.addtext_spec.specs.Grown.{Grown}
use Rattle.add_entries.specs.AddEntries.{spare_after as spare_after_text}
use Rattle.add_entries.specs.Ends.{Ends as TextEnds, whole as text_whole, stopped as text_stopped, unread as text_unread}
use Rattle.add_entries.proofs.Ends.{ends as text_ends}
use Rattle.preview_entries.specs.PreviewEntries.{spare_after as spare_previewed}
use Rattle.preview_entries.specs.Ends.{Ends, whole, stopped, unread}
use Rattle.preview_entries.proofs.Ends.{ends}
use Rattle.accept_entries.specs.AcceptEntries.{accept_entries, store_after as store_accepted}
use Rattle.accept_entries.proofs.Accepted.{accept_law}
use Rattle.versions.specs.Versions.{is_sheet_version}
use Rattle.utterance_spec.specs.Tree.{Word, Page, put_last}
use Rattle.utterance_spec.specs.Sheet.{version, page, is_sheet_length}
use Rattle.new_sheet.proofs.Fresh.{new_sound, new_reads, new_taken, new_unknown}
use Rattle.pipeline_spec.specs.Pronounced.{Sections, phones, pronounced, said}
use Rattle.say_word.specs.SayWord.{say_word, sheet_after}
use Rattle.say_word.proofs.Accepted.{say_law}
use Rattle.book.specs.Calls.{Call, make_sheet, adds_entry, adds_text, previews_text, accepts_text, says_word, Made, State, answer, step, is_refused, leaves, fresh}
use Rattle.book.specs.Book.{Book, empty, page_of, accepts, keeps, hears}
use Rattle.book.specs.Laws.Counts.{Stand}
use Rattle.book.proofs.Laws.Counts.{begin, raised, shown, halted}
use Rattle.book.specs.WellCut.{WellCut}
use Rattle.book.proofs.WellCut.{said_cut}
use Rattle.book.specs.Claim.{Each, Holds, Tells}
use Rattle.book.proofs.Claim.{holds, tells}
use Rattle.book.specs.Every.{Agrees}

each_last : (P : Word → Type 0) (ws : List Word) (w : Word) → Each P ws → P w → Each P (ws ++ (w ∷ []))
each_last P [] w h k = (k, tt)
each_last P (v ∷ ws) w h k = (h.0, each_last P ws w h.1 k)

same_version : (b : List ℕ) (k : Book) → page b ≡ page_of k → version b ≡ k.version
unfolding page
same_version b k e = ap (λ (p : Page). p.version) e

-- a count that may rise, and is at most the largest
below : (n : ℕ) → n ≤ largest → eqb n largest ≡ false → (n ≢ largest) × (n < largest)
below n b e = let h = eqb-false n largest e in (h, omega (arith, b, h))

module _ (c : Sections) (s : State) (k : Book) (a : Agrees s k) where
  -- what a call must leave
  abbrev After : Call → Option (List ℕ) → Type 0
  After call other = Agrees (step c call other s) (when is_refused c call other s then k else accepts c call k)

  makes : (version : ℕ) (other : Option (List ℕ)) → After (make_sheet version) other
  unfolding answer step accepts
  makes version other =
      let l = a.sheet.size in
      cases (is_sheet_version version)
      (λ v. rw (new_taken s.sheet version l v) (record {
        store = a.store;
        alike = a.alike;
        stand = a.stand;
        entries = a.entries;
        sheet = new_sound s.sheet version l v;
        page = new_reads s.sheet version l v;
        cut = tt;
      }))
      (λ v. let e = new_unknown s.sheet version l v in rw (e.0, e.1) a)

  adds : (word tag cells : List ℕ) (exact : Bool) (other : Option (List ℕ)) → After (adds_entry word tag cells exact) other
  unfolding answer step accepts
  adds word tag cells exact other =
      cases (eqb (add_entry c.lex_phones s.store word tag cells exact).refusal 0)
      (λ e. let r = eqb-true (add_entry c.lex_phones s.store word tag cells exact).refusal 0 e in
      let h = add_law c.lex_phones s.store word tag cells exact (accepted_is c.lex_phones s.store word tag cells exact r) in
      let n = below (count s.store) a.stand.bound h.rises in
      rw e (record {
        store = h.sound;
        alike = a.alike ∙ sym h.length;
        stand = rw (h.count n.1) (raised (count s.store) (count s.spare) a.stand n.0);
        entries = h.entries ∙ ap (λ (es : List Entry). adding (new_entry word tag cells exact) es) a.entries;
        sheet = a.sheet;
        page = a.page;
        cut = a.cut;
      }))
      (λ e. let z : store_after c.lex_phones s.store word tag cells exact ≡ s.store = unfold store_after in rw e in
      rw (e, z) a)

  -- a store that was raised by bytes that a text filled, beside the list's own spare or the filled one
  module _ (text full : List ℕ) (g : Grown s.store full (line_entries (lines text))) (r : eqb (count s.store) largest ≡ false) where
    abbrev more : ℕ
    more = count s.store + 1

    text_entries : entries (with_count full more) ≡ adding_all (line_entries (lines text)) k.entries
    text_entries = counted_entries full more g.sound ∙ g.entries ∙ ap (λ (es : List Entry). adding_all (line_entries (lines text)) es) a.entries

    text_beside : (F : Type 0) (spare : List ℕ) → length spare ≡ length s.store → Stand (count s.store) (count spare) F
        → Agrees (record { store = with_count full more; sheet = s.sheet; spare = spare }) (accepts c (adds_text text) k)
    unfolding accepts
    text_beside F spare l t =
        let n = below (count s.store) a.stand.bound r in
        record {
          store = counted full more g.sound;
          alike = l ∙ sym (counted_length full more ∙ g.length);
          stand = rw (counted_count full more g.sound (omega (arith, n.1))) (raised (count s.store) (count spare) t n.0);
          entries = text_entries;
          sheet = a.sheet;
          page = a.page;
          cut = a.cut;
        }

  -- a spare that was filled, by lines that are all taken or up to a stop
  halts : (spare : List ℕ) → length spare ≡ length s.store → count spare ≡ largest → Agrees (record { store = s.store; sheet = s.sheet; spare = spare }) k
  halts spare l e =
      record {
        store = a.store;
        alike = l;
        stand = rw e (halted (count s.store) (count s.spare) a.stand);
        entries = a.entries;
        sheet = a.sheet;
        page = a.page;
        cut = a.cut;
      }

  texts : (text : List ℕ) (other : Option (List ℕ)) → After (adds_text text) other
  unfolding answer step
  texts text none = go (text_ends c.lex_phones s.store s.spare text)
    where
      go : TextEnds c.lex_phones s.store s.spare text → After (adds_text text) none
      go (text_whole e t) =
          let f = (text_filled c.lex_phones s.store text).store in
          let g = t.grown in
          let w : Stand (count s.store) (count f) (Unit {0}) = rw g.count (shown (count s.store) (count s.spare) a.stand tt) in
          rw (e, t.store_is, t.spare_is) (text_beside text f g t.tests.rises (Unit {0}) f g.length w)
      go (text_stopped e z p) = rw (e, z) (halts (spare_after_text c.lex_phones s.store s.spare text) p.length p.count)
      go (text_unread e z p) = rw (e, z, p) a
  texts text (some other) = go (text_ends c.lex_phones s.store other text)
    where
      go : TextEnds c.lex_phones s.store other text → After (adds_text text) (some other)
      go (text_whole e t) =
          rw (e, t.store_is)
          (text_beside text (text_filled c.lex_phones s.store text).store t.grown t.tests.rises
          (entries s.spare ≡ adding_all k.previewed k.entries) s.spare a.alike a.stand)
      go (text_stopped e z p) = rw (e, z) a
      go (text_unread e z p) = rw (e, z) a

  previews : (text : List ℕ) (other : Option (List ℕ)) → After (previews_text text) other
  unfolding answer step accepts
  previews text other = go (ends c.lex_phones s.store s.spare text)
    where
      go : Ends c.lex_phones s.store s.spare text → After (previews_text text) other
      go (whole e g) =
          let w = g.entries ∙ ap (λ (es : List Entry). adding_all (line_entries (lines text)) es) a.entries in
          rw e (record {
            store = a.store;
            alike = g.length;
            stand = rw g.count (shown (count s.store) (count s.spare) a.stand w);
            entries = a.entries;
            sheet = a.sheet;
            page = a.page;
            cut = a.cut;
          })
      go (stopped e p) = rw e (halts (spare_previewed c.lex_phones s.store s.spare text) p.length p.count)
      go (unread e p) = rw (e, p) a

  takes : (other : Option (List ℕ)) → After accepts_text other
  unfolding answer step accepts
  takes other =
      cases (eqb (accept_entries s.store s.spare).refusal 0)
      (λ e. let t = accept_law s.store s.spare (eqb-true (accept_entries s.store s.spare).refusal 0 e) in
      let z : store_accepted s.store s.spare ≡ with_count s.spare (count s.spare + 1) = unfold store_accepted in rw e in
      let n = below (count s.store) a.stand.bound t.rises in
      let m = count s.spare + 1 in
      let q = t.seen in
      let f : count (with_count s.spare m) ≡ count s.store + 1 =
      counted_count s.spare m t.sound (omega (arith, n.1, q)) ∙ ap (λ (x : ℕ). x + 1) q in
      rw (e, z) (record {
        store = counted s.spare m t.sound;
        alike = sym (counted_length s.spare m);
        stand = rw f (raised (count s.store) (count s.spare) a.stand n.0);
        entries = counted_entries s.spare m t.sound ∙ a.stand.waits q n.0;
        sheet = a.sheet;
        page = a.page;
        cut = a.cut;
      }))
      (λ e. let z : store_accepted s.store s.spare ≡ s.store = unfold store_accepted in rw e in
      rw (e, z) a)

  says : (word tag : List ℕ) (other : Option (List ℕ)) → After (says_word word tag) other
  unfolding answer step accepts
  says word tag other =
      cases (eqb (say_word c s.store s.sheet word tag).refusal 0)
      (λ e. let t = say_law c s.store s.sheet word tag (eqb-true (say_word c s.store s.sheet word tag).refusal 0 e) in
      let v = same_version s.sheet k a.page in
      let w = said k.version word t.source t.phones in
      let y : pronounced c k.entries word tag ≡ phones t.source t.place t.phones =
      ap (λ (es : List Entry). pronounced c es word tag) (sym a.entries) ∙ t.came in
      rw (e, y) (record {
        store = a.store;
        alike = a.alike;
        stand = a.stand;
        entries = a.entries;
        sheet = t.sound;
        page = t.reads ∙ ap (λ (n : ℕ). put_last (said n word t.source t.phones) (page s.sheet)) v ∙ ap (put_last w) a.page;
        cut = each_last WellCut k.words w a.cut (said_cut k.version word t.source t.phones);
      }))
      (λ e. let z : sheet_after c s.store s.sheet word tag ≡ s.sheet = unfold sheet_after in rw e in
      rw (e, z) a)

  each_call : (call : Call) (other : Option (List ℕ)) → After call other
  each_call (make_sheet version) other = makes version other
  each_call (adds_entry word tag cells exact) other = adds word tag cells exact other
  each_call (adds_text text) other = texts text other
  each_call (previews_text text) other = previews text other
  each_call accepts_text other = takes other
  each_call (says_word word tag) other = says word tag other

-- a list of calls
in_turn : (c : Sections) (ms : List Made) (s : State) (k : Book) → Agrees s k → Agrees (leaves c ms s) (keeps c (hears c ms s) k)
unfolding leaves keeps hears
in_turn c [] s k a = a
in_turn c (m ∷ ms) s k a =
    in_turn c ms (step c m.call m.other s) (when is_refused c m.call m.other s then k else accepts c m.call k)
    (each_call c s k a m.call m.other)

begins : (store sheet : List ℕ) (version : ℕ) → is_store_length (length store) ≡ true → is_sheet_length (length sheet) ≡ true → is_sheet_version version ≡ true
    → Agrees (fresh store sheet version) (empty version)
unfolding fresh empty
begins store sheet version l h v =
    let z : new_store_bytes store ≡ fresh_store store l = unfold new_store_bytes new_store in rw l in
    rw z (record {
      store = fresh_sound store l;
      alike = refl;
      stand = rw (fresh_count store l) (begin (unfold adding_all in fresh_entries store l));
      entries = fresh_entries store l;
      sheet = new_sound sheet version h v;
      page = new_reads sheet version h v;
      cut = tt;
    })

-- for every list of calls, every set of sections, every known version, and every store and sheet as new store and new sheet leave them, their
-- other bytes arbitrary, with a spare equal to the store
pub every_list : (c : Sections) (store sheet : List ℕ) (version : ℕ) → is_store_length (length store) ≡ true → is_sheet_length (length sheet) ≡ true
    → is_sheet_version version ≡ true → (calls : List Made)
    → Holds (leaves c calls (fresh store sheet version)).store (keeps c (hears c calls (fresh store sheet version)) (empty version)).entries
    × Tells (leaves c calls (fresh store sheet version)).sheet (page_of (keeps c (hears c calls (fresh store sheet version)) (empty version)))
every_list c store sheet version l h v calls =
    let s = leaves c calls (fresh store sheet version) in
    let k = keeps c (hears c calls (fresh store sheet version)) (empty version) in
    let a = in_turn c calls (fresh store sheet version) (empty version) (begins store sheet version l h v) in
    (holds s.store k.entries a.store a.entries, tells s.sheet (page_of k) a.sheet a.page a.cut)
