-- Theorems about `specs/Grown.antt`: A line of a text below 128 that is taken adds an entry that fits, so the store stays sound; lines that are all taken add their
-- entries in turn and leave the count, and a stop leaves the largest.
-- Assumes nothing.
use Rattle.std.specs.Prelude.{ℕ, ◌+◌, ◌≡◌, Bool, true, false, Result, Ok, Err, ◌&&◌, leb, ltb, take, drop}
use Rattle.std.proofs.Common.{arith, sym, ap, ◌∙◌, ltb-false}
use Rattle.std.proofs.Math.Path.{refl}
use mathlib.Core.List.{List, [], ◌∷◌, ◌++◌}
use Rattle.std.proofs.Math.ListN.{length}
use Rattle.texts.specs.Choice.{both_true, cases}
use Rattle.texts.specs.Lists.{every, place}
use Rattle.texts.specs.Text.{ascii, is_word, is, ascii_take}
use Rattle.data.specs.Sections.{is_phone_table}
use Rattle.lines.specs.Lines.{content, field, is_empty, fields, after_field}
use Rattle.lines.specs.Laws.Ascii.{ascii_content, ascii_field, ascii_after, ascii_stripped}
use Rattle.slots_spec.specs.Slot.{Entry, Fits}
use Rattle.slots_spec.proofs.Slot.{folded_small}
use Rattle.store_spec.specs.Store.{with_count, largest}
use Rattle.store_spec.specs.Adding.{is_full, added}
use Rattle.store_spec.specs.Sound.{Sound}
use Rattle.store_spec.specs.Result.{Added}
use Rattle.store_spec.proofs.Added.{room}
use Rattle.store_spec.proofs.Laws.Counts.{counted_length, counted_count, count_same}
use Rattle.lexicon_spec.specs.Adding.{may_add}
use Rattle.lexicon_spec.proofs.Laws.Fitting.{fold_word, tag_low}
use Rattle.addtext_spec.specs.Filling.{onward, filled, entries_of, line_entries, adding_all}
use Rattle.addtext_spec.proofs.Laws.Phones.{may_phones}
use Rattle.addtext_spec.specs.Line.{Line, skipped, faulty, entry, on_content, read_line, line_entry, judged, outcome, on_outcome, behind_line}
use Rattle.addtext_spec.proofs.Line.{on_word, on_nothing}
use Rattle.answers.specs.declared.Refusal.{Refusal}
use Rattle.answers.specs.declared.Refusal.TheVariants.{Text, UnknownPhone, Phones, Full}
use Rattle.answers.specs.declared.Answer.{Answer}
use Rattle.answers.specs.Told.{refusal_number, refused, written}
use Rattle.answers.specs.Laws.Numbers.{not_zero, refused_never}
use Rattle.addtext_spec.specs.Grown.{Low, Tested, Grown, past, Whole, Stopped}

-- where the answer is a refusal, what was lent stays
pub stays : (r : Refusal) (line : ℕ) (a : Answer) (before after : List ℕ) → refused (refusal_number r) line ≡ a → written a before after ≡ before
stays r line a before after e = rw (sym e, not_zero r)

low_content : (c : List ℕ) → ascii c ≡ true → Low (on_content c)
unfolding on_content Low
low_content c h =
    let n = place (is 58) c in
    let s = take n c in
    let a = ascii_take n c h in
    cases (is_empty c) (λ e. rw e tt) (λ e. cases (leb (length c) n) (λ f. rw (e, f) tt) (λ f. cases (is_empty s)
    (λ g. rw (e, f, on_nothing s (fields (drop (n + 1) c)) g) tt)
    (λ g. rw (e, f, on_word s (fields (drop (n + 1) c)) g) (ascii_stripped (field s) (ascii_field s a), ascii_field (after_field s) (ascii_after s a)))))

pub low_line : (l : List ℕ) → ascii l ≡ true → Low (read_line l)
unfolding read_line
low_line l h = low_content (content l) (ascii_content l h)

-- an entry line is taken, or it is refused
pub judged_as : {C : Type 0} (table store word tag : List ℕ) (phones : List (List ℕ)) → (judged table store word tag phones ≡ Ok true → Tested table store word tag phones → C)
    → ((r : Refusal) → judged table store word tag phones ≡ Err r → C) → C
unfolding judged
judged_as table store word tag phones ok not-ok =
    cases (leb (length word) 47 && leb (length tag) 47) (λ t₃. cases (every (may_add table) phones) (λ t₅. cases (ltb 24 (length phones))
    (λ t₇. not-ok Phones (rw (t₃, t₅, t₇)))
    (λ t₇. cases (is_full store (line_entry word tag phones))
    (λ t₈. not-ok Full (rw (t₃, t₅, t₇, t₈)))
    (λ t₈. ok (rw (t₃, t₅, t₇, t₈)) (record { short = t₃; known = t₅; few = t₇; free = t₈ }))))
    (λ t₅. not-ok UnknownPhone (rw (t₃, t₅))))
    (λ t₃. not-ok Text (rw t₃))

word_from_lem : (w : List ℕ) → leb (length w) 47 ≡ true → ascii w ≡ true → is_word w ≡ true
unfolding is_word
word_from_lem w l a = rw (l, a)

-- the entry of a line that is taken fits
line_fits : (table store word tag : List ℕ) (phones : List (List ℕ)) → is_phone_table table ≡ true → ascii word ≡ true → ascii tag ≡ true → Tested table store word tag phones → Fits (line_entry word tag phones)
unfolding line_entry
line_fits table store word tag phones t w g h =
    let b = both_true (leb (length word) 47) (leb (length tag) 47) h.short in
    record { low_tag = tag_low tag (word_from_lem tag b.1 g); a_word = fold_word word (word_from_lem word b.0 w); small = folded_small word; few = ltb-false 24 (length phones) h.few; texts = may_phones table phones t h.known }

-- a line that is taken adds its entry
line_added : (table store word tag : List ℕ) (phones : List (List ℕ)) → is_phone_table table ≡ true → Sound store → ascii word ≡ true → ascii tag ≡ true
    → Tested table store word tag phones → Added store (added store (line_entry word tag phones)) (line_entry word tag phones)
line_added table store word tag phones t s w g h = room store (line_entry word tag phones) s (line_fits table store word tag phones t w g h) h.free

-- behind any line the store is sound
pub line_sound : (table store : List ℕ) (l : Line) → is_phone_table table ≡ true → Sound store → Low l → Sound (behind_line table store l)
unfolding behind_line Low on_outcome
line_sound table store skipped t s h = s
line_sound table store faulty t s h = s
line_sound table store (entry word tag phones) t s h =
    judged_as table store word tag phones
    (λ e k. rw e (line_added table store word tag phones t s h.0 h.1 k).sound)
    (λ r e. rw e s)

-- behind an entry line that was taken
grown_entry : (b c d : List ℕ) (e : Entry) (es : List Entry) → Added b c e → Grown c d es → Grown b d (e ∷ es)
unfolding adding_all
grown_entry b c d e es a g =
    record {
      sound = g.sound;
      entries = g.entries ∙ ap (adding_all es) a.entries;
      length = g.length ∙ a.length;
      count = g.count ∙ count_same b c a.head;
    }

module _ (table : List ℕ) (t : is_phone_table table ≡ true) where
  pub all_added : (store : List ℕ) (n k : ℕ) (ls : List (List ℕ)) → Sound store → every ascii ls ≡ true → (filled table store n k ls).answer.refusal ≡ 0
      → Grown store (filled table store n k ls).store (line_entries ls)
  unfolding filled line_entries every adding_all onward behind_line outcome entries_of Low on_outcome
  all_added store n k [] s a h = record { sound = s; entries = refl; length = refl; count = refl }
  all_added store n k (l ∷ ls) s a h =
      let b = both_true (ascii l) (every ascii ls) a in
      behind (read_line l) (low_line l b.0) (λ c m z. all_added c (n + 1) m ls z b.1) h
    where
      behind : (line : Line) → Low line → ((c : List ℕ) (m : ℕ) → Sound c → (filled table c (n + 1) m ls).answer.refusal ≡ 0 → Grown c (filled table c (n + 1) m ls).store (line_entries ls))
          → (past table store n k ls line).answer.refusal ≡ 0 → Grown store (past table store n k ls line).store (entries_of line ++ line_entries ls)
      behind skipped w ih h = ih store k s h
      behind faulty w ih h = absurd (omega (arith, h))
      behind (entry word tag phones) w ih h =
          judged_as table store word tag phones
          (λ e f. let y = line_added table store word tag phones t s w.0 w.1 f in rw e (grown_entry store (added store (line_entry word tag phones)) (filled table (added store (line_entry word tag phones)) (n + 1) (k + 1) ls).store (line_entry word tag phones) (line_entries ls) y (ih (added store (line_entry word tag phones)) (k + 1) y.sound (rw e at h))))
          (λ r e. refused_never r (rw e at h))

line_whole : (table store : List ℕ) (l : Line) → is_phone_table table ≡ true → Sound store → Low l → Whole store (behind_line table store l)
unfolding behind_line Low on_outcome
line_whole table store skipped t s h = record { sound = s; length = refl }
line_whole table store faulty t s h = record { sound = s; length = refl }
line_whole table store (entry word tag phones) t s h =
    judged_as table store word tag phones
    (λ e k. let y = line_added table store word tag phones t s h.0 h.1 k in rw e (record { sound = y.sound; length = y.length }))
    (λ r e. rw e (record { sound = s; length = refl }))

filled_whole : (table store : List ℕ) (n k : ℕ) (ls : List (List ℕ)) → is_phone_table table ≡ true → Sound store → every ascii ls ≡ true
    → Whole store (filled table store n k ls).store
unfolding filled every onward
filled_whole table store n k [] t s a = record { sound = s; length = refl }
filled_whole table store n k (l ∷ ls) t s a =
    let b = both_true (ascii l) (every ascii ls) a in
    let w = line_whole table store (read_line l) t s (low_line l b.0) in
    let d = behind_line table store (read_line l) in
    go d w (λ m. filled_whole table d (n + 1) m ls t w.sound b.1) (outcome table store (read_line l))
  where
    go : (d : List ℕ) → Whole store d → ((m : ℕ) → Whole d (filled table d (n + 1) m ls).store) → (o : Result Bool Refusal)
        → Whole store (onward n k d (λ (m : ℕ). filled table d (n + 1) m ls) o).store
    go d w ih (Ok false) = record { sound = (ih k).sound; length = (ih k).length ∙ w.length }
    go d w ih (Ok true) = record { sound = (ih (k + 1)).sound; length = (ih (k + 1)).length ∙ w.length }
    go d w ih (Err r) = w

pub stop_law : (table store : List ℕ) (n k : ℕ) (ls : List (List ℕ)) → is_phone_table table ≡ true → Sound store → every ascii ls ≡ true
    → Stopped store (with_count (filled table store n k ls).store largest)
stop_law table store n k ls t s a =
    let w = filled_whole table store n k ls t s a in
    let c = (filled table store n k ls).store in
    record { length = counted_length c largest ∙ w.length; count = counted_count c largest w.sound (omega arith) }
