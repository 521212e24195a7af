-- Each event, note and move of passes keeps a core state valid.
use Rattle.std.proofs.Common.{◌≡◌, ◌⊎◌, ℕ, zero, suc, ◌/◌, ◌%◌, ◌<◌, List, [], ◌∷◌, ◌++◌, length, get_or, set, refl, sym, ap, ◌∙◌, inl, inr, ⊎_elim, Bool, true, false, arith}
use Rattle.std.specs.Prelude.{ℤ}
use Rattle.std.proofs.lemmas.List.{length-set, length_push, get_or_append_left, get_or-set_other}
use Rattle.std.proofs.lemmas.Bool.{false≢true}
use mathlib.Core.Option.{some}
use lib.ListN.{get_elem?}
use Rattle.level_table.specs.declared.level.Level.{Level}
use Rattle.level_table.specs.declared.level.Level.TheVariants.{Empty, At}
use Rattle.level_table.specs.declared.reason.Note.{Note}
use Rattle.level_table.specs.Levels.{level_at, levels_in, lesser}
use Rattle.level_table.specs.Notes.{Named, no_note}
use Rattle.bound_laws.proofs.Notes.{named_is_kept, noted}
use Rattle.bound_laws.proofs.Levels.{at_most_empty, lesser_number}
use Rattle.schedule_core.specs.declared.event.Event.{Event}
use Rattle.schedule_core.specs.declared.event.Event.TheVariants as events
use Rattle.schedule_core.specs.Frame.{Frame, AreKept, IsAbove, IsFrame, IsNoteOver, IsRowLevelOf, NamedRow, rows_of}
use Rattle.schedule_core.specs.Core.{AreValid, Core, FitsReader, IsValid, IsWorking, MayHappen, Reader, cleared, copied, ends, joined, loaded, lowered, reader_at, seen_by, sees, split, stepped, takes, word_in}
use Rattle.schedule_core.specs.Core as core
use Rattle.schedule_core.proofs.Levels.{row_known, row_level_lowers, seen_is_kept, some_row}
use Rattle.schedule_core.proofs.Lists.{at_snoc, each_after, each_found, found, got}
use Rattle.schedule_core.proofs.Words.{clear_keeps, join_keeps, lesser_at, load_keeps, lower_keeps, split_keeps}

-- a row of a named state may be cleared
pub named_above : (f : Frame) (notes : List Note) (r : ℕ) → IsFrame f → AreKept f notes → r < rows_of f → NamedRow f notes r → IsAbove f r Empty
named_above f notes r ok kept below named = named_is_kept f.problem (levels_in f.start) notes (r / f.start.directions) (r % f.start.directions) ok.problem kept named (row_known f r ok below)

-- each row that the reader has seen Empty is of a named state
abbrev IsNoted : Frame → List Note → Reader → Type 0
IsNoted f notes v = (r : ℕ) → r < rows_of f → level_at v.seen r ≡ Empty → NamedRow f notes r

abbrev AllNoted : Core → List Reader → Type 0
AllNoted c readers = (id : ℕ) (v : Reader) → get_elem? readers id ≡ some v → v.owner ≡ true → IsNoted c.frame c.notes v

abbrev words_of : Core → List Level → List Reader → Type 0
words_of c levels readers = AreValid (λ (v : Reader). v) c.frame levels readers

reader : Reader → Reader
reader v = v

pub at_worker : (c : Core) (w : ℕ) → IsWorking c w → get_elem? c.readers w ≡ some (reader_at c w)
at_worker c w h = found c.readers w _ h.there

-- the owner is worker 0
pub owner_works : (c : Core) → IsValid c → IsWorking c 0 × ((reader_at c 0).owner ≡ true)
owner_works c ok =
    let is : reader_at c 0 ≡ ok.words.first = got c.readers 0 ok.words.first _ ok.words.first_is in (
      record { there = Rattle.schedule_core.proofs.Lists.there c.readers 0 ok.words.first ok.words.first_is; works = ap (λ (v : Reader). v.ended) is ∙ ok.words.first_stays },
      ap (λ (v : Reader). v.owner) is ∙ ok.words.first_owns,
    )

pub fit : (c : Core) (w : ℕ) → IsValid c → IsWorking c w → FitsReader c.frame c.levels (reader_at c w)
fit c w ok h = ok.words.fits w (reader_at c w) (at_worker c w h) h.works

-- the readers after one has seen another level
noted_seeing : (c : Core) (w r : ℕ) (l : Level) → IsValid c → IsWorking c w → r < rows_of c.frame → ((reader_at c w).owner ≡ true → l ≡ Empty → NamedRow c.frame c.notes r)
    → AllNoted c (set c.readers w (sees (reader_at c w) r l))
noted_seeing c w r l ok works within new = each_found (λ _ (v : Reader). v.owner ≡ true → IsNoted c.frame c.notes v) c.readers w (sees (reader_at c w) r l)
    (λ owner. each_after (λ j m. m ≡ Empty → NamedRow c.frame c.notes j) Empty (seen_by c w).levels (rows_of c.frame) r l (omega (arith, (fit c w ok works).seen.one_each)) (new owner) (ok.named w (reader_at c w) (at_worker c w works) owner))
    (λ j v _ at. ok.named j v at)

-- a word that is Empty is of a named state
word_named : (c : Core) (r : ℕ) → IsValid c → r < rows_of c.frame → word_in c r ≡ Empty → NamedRow c.frame c.notes r
word_named c r ok within e =
    let o = owner_works c ok in
    ok.named 0 (reader_at c 0) (at_worker c 0 o.0) o.1 r within ((fit c 0 ok o.0).owned o.1 r within e)

pub load_valid : (c : Core) (w r : ℕ) → IsValid c → IsWorking c w → r < rows_of c.frame → IsValid (loaded c w r)
load_valid c w r ok works within = record {
  words = load_keeps (λ (v : Reader). v) c.frame c.levels c.readers w (reader_at c w) (sees (reader_at c w) r (word_in c r)) r ok.words (at_worker c w works) works.works within refl;
  kept = ok.kept;
  named = noted_seeing c w r (word_in c r) ok works within (λ _ e. word_named c r ok within e);
}

pub lower_valid : (c : Core) (w r : ℕ) (x : ℤ) → IsFrame c.frame → IsValid c → IsWorking c w → r < rows_of c.frame → IsRowLevelOf c.frame (seen_by c w) r (At x) → IsValid (lowered c w r (At x))
lower_valid c w r x frame ok works within level =
    let lowering = row_level_lowers c.frame (seen_by c w) r x frame (fit c w ok works).seen within level in
    let new = lesser (word_in c r) (At x) in record {
      words = lower_keeps (λ (v : Reader). v) c.frame c.levels c.readers w (reader_at c w) (sees (reader_at c w) r new) r x ok.words (at_worker c w works) works.works within lowering refl;
      kept = ok.kept;
      named = noted_seeing c w r new ok works within (λ _ e. word_named c r ok within (lesser_number (word_in c r) x e));
    }

pub clear_valid : (c : Core) (r : ℕ) → IsFrame c.frame → IsValid c → r < rows_of c.frame → NamedRow c.frame c.notes r → IsValid (cleared c r)
clear_valid c r frame ok within named =
    let o = owner_works c ok in record {
      words = clear_keeps (λ (v : Reader). v) c.frame c.levels c.readers 0 (reader_at c 0) (sees (reader_at c 0) r Empty) r ok.words (at_worker c 0 o.0) o.0.works o.1 within
          (named_above c.frame c.notes r frame ok.kept within named) refl;
      kept = ok.kept;
      named = noted_seeing c 0 r Empty ok o.0 within (λ _ _. named);
    }

pub step_valid : (c : Core) (e : Event) → IsFrame c.frame → IsValid c → MayHappen c e → IsValid (stepped c e)
step_valid c (events.Load w r) frame ok may = load_valid c w r ok may.0 may.1
step_valid c (events.Lower w r x) frame ok may = lower_valid c w r x frame ok may.0 may.1 may.2
step_valid c (events.Clear r) frame ok may = clear_valid c r frame ok may.0 may.1

pub named_more : (notes : List Note) (note : Note) (s : ℕ) → Named notes s → Named (notes ++ note ∷ []) s
named_more notes note s h = (
  h.0,
  omega (arith, length_push notes note),
  ap (λ (x : Note). x.state) (get_or_append_left notes (note ∷ []) no_note h.0 h.1) ∙ h.2,
)

pub note_valid : (c : Core) (note : Note) → IsFrame c.frame → IsValid c → IsNoteOver c.frame (seen_by c 0) c.notes note → IsValid (core.noted c note)
note_valid c note frame ok new = record {
  words = ok.words;
  kept = noted c.frame.problem (levels_in c.frame.start) (levels_in (seen_by c 0)) c.notes note frame.problem
      (seen_is_kept c.frame (seen_by c 0) frame (fit c 0 ok (owner_works c ok).0).seen) ok.kept new;
  named = λ id v at owner r below e. named_more c.notes note (r / c.frame.start.directions) (ok.named id v at owner r below e);
}

-- whoever works still does after one has seen another level
pub works_after : (c d : Core) (w u r : ℕ) (l : Level) → d.readers ≡ set c.readers w (sees (reader_at c w) r l) → IsWorking c w → IsWorking c u → IsWorking d u
works_after c d w u r l is works h = record {
  there = omega (arith, ap length is, length-set c.readers w (sees (reader_at c w) r l), h.there);
  works = ap (λ (vs : List Reader). (get_or vs u core.no_reader).ended) is ∙ each_got c.readers w (sees (reader_at c w) r l) _ works.there works.works u h.works;
}
  where
    each_got : (l : List Reader) (i : ℕ) (a d : Reader) → i < length l → a.ended ≡ false → (j : ℕ) → (get_or l j d).ended ≡ false → (get_or (set l i a) j d).ended ≡ false
    each_got [] i a d h e j k = absurd (omega arith)
    each_got (x ∷ xs) zero a d h e zero k = e
    each_got (x ∷ xs) zero a d h e (suc j) k = k
    each_got (x ∷ xs) (suc i) a d h e zero k = k
    each_got (x ∷ xs) (suc i) a d h e (suc j) k = each_got xs i a d (omega arith) e j k

still_works : (c : Core) (w u r : ℕ) → IsWorking c w → IsWorking c u → IsWorking (loaded c w r) u
still_works c w u r works h = works_after c (loaded c w r) w u r (word_in c r) refl works h

pub split_valid : (c : Core) (w : ℕ) → IsFrame c.frame → IsValid c → IsWorking c w → IsValid (split c w)
split_valid c w frame ok works =
    let b = loaded c w 0 in
    let ok' = load_valid c w 0 ok works (some_row c.frame frame) in
    let works' = still_works c w w 0 works works in record {
      words = split_keeps (λ (v : Reader). v) c.frame c.levels b.readers w (reader_at b w) (copied (reader_at b w)) ok'.words (at_worker b w works') works'.works refl;
      kept = ok.kept;
      named = λ id v at owner. ⊎_elim
          (λ (was : get_elem? b.readers id ≡ some v). ok'.named id v was owner)
          (λ (new : copied (reader_at b w) ≡ v). absurd (false≢true (ap (λ (x : Reader). x.owner) new ∙ owner)))
          (at_snoc b.readers (copied (reader_at b w)) v id at);
    }

lesser_empty : (l m : Level) → lesser l m ≡ Empty → (l ≡ Empty) ⊎ (m ≡ Empty)
lesser_empty Empty m e = inl refl
lesser_empty (At x) Empty e = inr refl
lesser_empty (At x) (At y) e = absurd (cc)

not_true : (b : Bool) → (b ≡ true → ⊥) → b ≡ false
not_true true h = absurd (h refl)
not_true false h = refl

-- what the owner sees Empty after a join is of a named state
joined_noted : (c : Core) (w : ℕ) → IsValid c → IsWorking c w → IsNoted c.frame c.notes (takes (reader_at c 0) (reader_at c w))
joined_noted c w ok works r within e =
    let o = owner_works c ok in
    let mine = fit c 0 ok o.0 in
    let theirs = fit c w ok works in
    let t = (seen_by c 0).levels in
    let u = (seen_by c w).levels in
    let same : length t ≡ length u = mine.seen.one_each ∙ sym theirs.seen.one_each in
    let here : r < length t = omega (arith, mine.seen.one_each) in
    ⊎_elim
    (λ (h : get_or t r Empty ≡ Empty). ok.named 0 (reader_at c 0) (at_worker c 0 o.0) o.1 r within h)
    (λ (h : get_or u r Empty ≡ Empty). word_named c r ok within (at_most_empty (word_in c r) (get_or u r Empty) (theirs.above r within) h))
    (lesser_empty (get_or t r Empty) (get_or u r Empty) (sym (lesser_at t u r same here) ∙ e))

pub join_valid : (c : Core) (w : ℕ) → IsFrame c.frame → IsValid c → IsWorking c w → 0 < w → IsValid (joined c w)
join_valid c w frame ok works positive =
    let o = owner_works c ok in
    let b = loaded c 0 0 in
    let ok' = load_valid c 0 0 ok o.0 (some_row c.frame frame) in
    let mine = still_works c 0 0 0 o.0 o.0 in
    let theirs = still_works c 0 w 0 o.0 works in
    let o' = owner_works b ok' in
    let unowned : (reader_at c w).owner ≡ false = not_true (reader_at c w).owner (λ h. let z = ok.words.one_owner w (reader_at c w) (at_worker c w works) h in absurd (omega arith)) in
    let same : reader_at b w ≡ reader_at c w = get_or-set_other c.readers 0 w (sees (reader_at c 0) 0 (word_in c 0)) _ (λ e. absurd (omega arith)) in
    let both = takes (reader_at b 0) (reader_at b w) in record {
      words = join_keeps (λ (v : Reader). v) c.frame c.levels b.readers 0 (reader_at b 0) w (reader_at b w) both (ends (reader_at c w)) ok'.words
          (at_worker b 0 mine) mine.works (λ e. absurd (omega arith)) (at_worker b w theirs) theirs.works (ap (λ (v : Reader). v.owner) same ∙ unowned) refl refl unowned;
      kept = ok.kept;
      named = each_found (λ _ (v : Reader). v.owner ≡ true → IsNoted c.frame c.notes v) (set b.readers 0 both) w (ends (reader_at c w))
          (λ owner. absurd (false≢true (sym unowned ∙ owner)))
          (λ i u _ is. each_found (λ _ (v : Reader). v.owner ≡ true → IsNoted c.frame c.notes v) b.readers 0 both (λ _. joined_noted b w ok' theirs) (λ j v _ at. ok'.named j v at) i u is);
    }
