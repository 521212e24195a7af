-- Replays of moves: they are runs, and differ in nothing but the reasons of notes.
use Rattle.std.proofs.Common.{◌≡◌, inl, inr, ℕ, zero, suc, ◌+◌, ◌/◌, ◌%◌, ◌<◌, ◌++◌, List, [], ◌∷◌, length, map, get_or, refl, sym, ap, subst, ◌∙◌, All, false, arith}
use Rattle.std.proofs.Math.ListN.{get_or-map}
use Rattle.std.proofs.lemmas.List.{get_or_push, length-map, length_push, map-append}
use Rattle.level_table.specs.declared.level.Level.{Level}
use Rattle.level_table.specs.declared.level.Level.TheVariants.{Empty, At}
use Rattle.level_table.specs.declared.reason.Note.{Note}
use Rattle.level_table.specs.Levels.{levels_in}
use Rattle.level_table.specs.Notes.{Named, no_note}
use Rattle.level_table.proofs.WorkedRows.{unique}
use Rattle.schedule_core.specs.declared.event.Event.TheVariants as events
use Rattle.schedule_core.specs.declared.moves.Move.{Move}
use Rattle.schedule_core.specs.declared.moves.Move.TheVariants.{Load, Lower, Clear}
use Rattle.schedule_core.specs.Frame.{Frame, IsRowLevelOf, NamedRow, rows_of}
use Rattle.schedule_core.specs.Core.{Core, IsWorking, Reader, cleared, loaded, lowered, no_reader, noted, seen_by, word_in}
use Rattle.schedule_core.specs.Runs.{Act, MayRun, acted, after, others, started}
use Rattle.schedule_core.specs.Schedules.{FitsMove}
use Rattle.schedule_core.specs.Replays.{AdmitsNothing, Agree, IsMoved, IsReplay, lowered_to}
use Rattle.schedule_core.proofs.Events.{works_after}

-- ---- runs
pub named_new : (notes : List Note) (note : Note) (s : ℕ) → note.state ≡ s → Named (notes ++ note ∷ []) s
named_new notes note s e = (length notes, omega (arith, length_push notes note), ap (λ (m : Note). m.state) (get_or_push notes note no_note (length notes) refl) ∙ e)

-- so many workers work
abbrev pub IsCrew : ℕ → Core → Type 0
IsCrew n c = (w : ℕ) → w < n → IsWorking c w

pub crew_started : (f : Frame) (n : ℕ) (notes : List Note) → IsCrew (n + 1) (started f n notes)
crew_started f n notes zero below = record { there = omega arith; works = refl }
crew_started f n notes (suc w) below = other (n) w (omega arith)
  where
    there : (k w : ℕ) → w < k → (w < length (others f.start k)) × ((get_or (others f.start k) w no_reader).ended ≡ false)
    there zero w h = absurd (omega arith)
    there (suc k) zero h = (omega arith, refl)
    there (suc k) (suc w) h = let p = there k w (omega arith) in (omega (arith, p.0), p.1)

    other : (k w : ℕ) → w < k → IsWorking (started f k notes) (suc w)
    other k w h = let p = there k w h in record { there = omega (arith, p.0); works = p.1 }

may_append : (c : Core) (xs ys : List Act) → MayRun c xs → MayRun (after c xs) ys → MayRun c (xs ++ ys)
may_append c [] ys h k = k
may_append c (a ∷ xs) ys h k = (h.0, may_append (acted c a) xs ys h.1 k)

after_append : (c : Core) (xs ys : List Act) → after c (xs ++ ys) ≡ after (after c xs) ys
after_append c [] ys = refl
after_append c (a ∷ xs) ys = after_append (acted c a) xs ys

-- a move as acts
record IsActed (n : ℕ) (c d : Core) : Type 0 where
  acts : List Act
  may : MayRun c acts
  is : d ≡ after c acts
  frame : d.frame ≡ c.frame
  crew : IsCrew n d

same_working : (c d : Core) (w : ℕ) → d.readers ≡ c.readers → IsWorking c w → IsWorking d w
same_working c d w e h = record { there = subst (λ (vs : List Reader). w < length vs) (sym e) h.there; works = ap (λ (vs : List Reader). (get_or vs w no_reader).ended) e ∙ h.works }

none_acted : (n : ℕ) (c d : Core) → IsCrew n c → d ≡ c → IsActed n c d
none_acted n c d crew e = record {
  acts = [];
  may = tt;
  is = e;
  frame = ap (λ (x : Core). x.frame) e;
  crew = λ w below. same_working c d w (ap (λ (x : Core). x.readers) e) (crew w below);
}

load_acted : (n : ℕ) (c d : Core) (w r : ℕ) → IsCrew n c → w < n → r < rows_of c.frame → d ≡ loaded c w r → IsActed n c d
load_acted n c d w r crew worker row e = record {
  acts = Act.Happens (events.Load w r) ∷ [];
  may = ((crew w worker, row), tt);
  is = e;
  frame = ap (λ (x : Core). x.frame) e;
  crew = λ u below. works_after c d w u r (word_in c r) (ap (λ (x : Core). x.readers) e) (crew w worker) (crew u below);
}

lower_acted : (n : ℕ) (c d : Core) (w r : ℕ) (l : Level) → IsCrew n c → w < n → r < rows_of c.frame → IsRowLevelOf c.frame (seen_by c w) r l → d ≡ lowered_to c w r l → IsActed n c d
lower_acted n c d w r Empty crew worker row level e = none_acted n c d crew e
lower_acted n c d w r (At x) crew worker row level e = record {
  acts = Act.Happens (events.Lower w r x) ∷ [];
  may = ((crew w worker, row, level), tt);
  is = e;
  frame = ap (λ (y : Core). y.frame) e;
  crew = λ u below. works_after c d w u r _ (ap (λ (y : Core). y.readers) e) (crew w worker) (crew u below);
}

clear_acted : (n : ℕ) (c d : Core) (r : ℕ) → 0 < n → IsCrew n c → r < rows_of c.frame → IsMoved c (Clear r) d → IsActed n c d
clear_acted n c d r some crew row (inl (named, e)) = record {
  acts = Act.Happens (events.Clear r) ∷ [];
  may = ((row, named), tt);
  is = e;
  frame = ap (λ (x : Core). x.frame) e;
  crew = λ u below. works_after c d 0 u r Empty (ap (λ (x : Core). x.readers) e) (crew 0 some) (crew u below);
}
clear_acted n c d r some crew row (inr (inl (new, nothing, (note, state, over, e)))) = record {
  acts = Act.Keeps note ∷ Act.Happens (events.Clear r) ∷ [];
  may = (over, ((row, named_new c.notes note (r / c.frame.start.directions) state), tt));
  is = e;
  frame = ap (λ (x : Core). x.frame) e;
  crew = λ u below. works_after c d 0 u r Empty (ap (λ (x : Core). x.readers) e) (crew 0 some) (crew u below);
}
clear_acted n c d r some crew row (inr (inr (new, some_point, e))) = none_acted n c d crew e

move_acted : (n : ℕ) (c d : Core) (m : Move) → 0 < n → IsCrew n c → FitsMove n (rows_of c.frame) m → IsMoved c m d → IsActed n c d
move_acted n c d (Load w r) some crew fits h = load_acted n c d w r crew fits.0 fits.1 h
move_acted n c d (Lower w r) some crew fits h = lower_acted n c d w r h.0 crew fits.0 fits.1 h.1 h.2
move_acted n c d (Clear r) some crew fits h = clear_acted n c d r some crew fits h

pub move_keeps_frame : (n : ℕ) (c d : Core) (m : Move) → 0 < n → IsCrew n c → FitsMove n (rows_of c.frame) m → IsMoved c m d → d.frame ≡ c.frame
move_keeps_frame n c d m some crew fits h = (move_acted n c d m some crew fits h).frame

pub move_keeps_crew : (n : ℕ) (c d : Core) (m : Move) → 0 < n → IsCrew n c → FitsMove n (rows_of c.frame) m → IsMoved c m d → IsCrew n d
move_keeps_crew n c d m some crew fits h = (move_acted n c d m some crew fits h).crew

replay_acted : (n : ℕ) (c d : Core) (moves : List Move) → 0 < n → IsCrew n c → All (FitsMove n (rows_of c.frame)) moves → IsReplay c moves d → (acts : List Act) × MayRun c acts × (d ≡ after c acts)
replay_acted n c d [] some crew fits h = ([], tt, h)
replay_acted n c d (m ∷ moves) some crew fits (e, moved, rest) =
    let first = move_acted n c e m some crew (fits 0 m (omega arith)) moved in
    let others = replay_acted n e d moves some first.crew (λ k x below. subst (λ (f : Frame). FitsMove n (rows_of f) (get_or moves k x)) (sym first.frame) (fits (suc k) x (omega arith))) rest in (
      first.acts ++ others.0,
      may_append c first.acts others.0 first.may (subst (λ (x : Core). MayRun x others.0) first.is others.1),
      others.2 ∙ ap (λ (x : Core). after x others.0) first.is ∙ sym (after_append c first.acts others.0),
    )

pub replay_runs : (f : Frame) (n : ℕ) (notes : List Note) (moves : List Move) (c : Core) → All (FitsMove (n + 1) (rows_of f)) moves → IsReplay (started f n notes) moves c
    → (acts : List Act) × MayRun (started f n notes) acts × (c ≡ after (started f n notes) acts)
replay_runs f n notes moves c fits h = replay_acted (n + 1) (started f n notes) c moves (omega arith) (crew_started f n notes) fits h

-- one move more
pub replay_more : (c d e : Core) (moves : List Move) (m : Move) → IsReplay c moves d → IsMoved d m e → IsReplay c (moves ++ m ∷ []) e
replay_more c d e [] m h moved = (e, subst (λ (x : Core). IsMoved x m e) h moved, refl)
replay_more c d e (n ∷ moves) m (x, first, rest) moved = (x, first, replay_more x d e moves m rest moved)

-- ---- one answer
abbrev states_in : List Note → List ℕ
states_in notes = map (λ (note : Note). note.state) notes

named_by_states : (ns ms : List Note) (s : ℕ) → states_in ns ≡ states_in ms → Named ns s → Named ms s
named_by_states ns ms s e (l, below, is) =
    let same : length ns ≡ length ms = sym (length-map ns (λ (note : Note). note.state)) ∙ ap length e ∙ length-map ms (λ (note : Note). note.state) in (
      l,
      omega (arith, below, same),
      sym (get_or-map (λ (note : Note). note.state) ms l no_note) ∙ ap (λ (xs : List ℕ). get_or xs l 0) (sym e) ∙ get_or-map (λ (note : Note). note.state) ns l no_note ∙ is,
    )

agree_back : (c d : Core) → Agree c d → Agree d c
agree_back c d h = record { frames = sym h.frames; words = sym h.words; workers = sym h.workers; named = sym h.named }

-- agreeing states are equal but for notes
abbrev with_notes : Core → List Note → Core
with_notes c notes = record { frame = c.frame; levels = c.levels; readers = c.readers; notes = notes }

same_but_notes : (c d : Core) → Agree c d → d ≡ with_notes c d.notes
same_but_notes c d h = λ i. record { frame = sym h.frames i; levels = sym h.words i; readers = sym h.workers i; notes = d.notes }

-- a step that neither reads nor changes notes
record PassesNotes (f : Core → Core) : Type 0 where
  passes : (c : Core) (notes : List Note) → f (with_notes c notes) ≡ with_notes (f c) notes

follow : (f : Core → Core) (c d x y : Core) → PassesNotes f → Agree c d → x ≡ f c → y ≡ f d → Agree x y
follow f c d x y h agree p q =
    let mine : x ≡ with_notes (f c) c.notes = p ∙ h.passes c c.notes in
    let other : y ≡ with_notes (f c) d.notes = q ∙ ap f (same_but_notes c d agree) ∙ h.passes c d.notes in record {
      frames = ap (λ (z : Core). z.frame) mine ∙ sym (ap (λ (z : Core). z.frame) other);
      words = ap (λ (z : Core). z.levels) mine ∙ sym (ap (λ (z : Core). z.levels) other);
      workers = ap (λ (z : Core). z.readers) mine ∙ sym (ap (λ (z : Core). z.readers) other);
      named = ap (λ (z : Core). states_in z.notes) mine ∙ agree.named ∙ sym (ap (λ (z : Core). states_in z.notes) other);
    }

lowerings_agree : (c d x y : Core) (w r : ℕ) (l : Level) → Agree c d → x ≡ lowered_to c w r l → y ≡ lowered_to d w r l → Agree x y
lowerings_agree c d x y w r Empty h p q = follow (λ z. z) c d x y (record { passes = λ z notes. refl }) h p q
lowerings_agree c d x y w r (At v) h p q = follow (λ z. lowered z w r (At v)) c d x y (record { passes = λ z notes. refl }) h p q

-- what is said of a state but for its notes holds of those that agree with it
along : (P : Core → Type 0) (c d : Core) → ((notes : List Note) → P (with_notes c notes) → P c) → Agree c d → P d → P c
along P c d but h p = but d.notes (subst P (same_but_notes c d h) p)

names_alike : (c d : Core) (r : ℕ) → Agree c d → NamedRow d.frame d.notes r → NamedRow c.frame c.notes r
names_alike c d r h named =
    subst (λ (f : Frame). NamedRow f c.notes r) (sym h.frames) (named_by_states d.notes c.notes (r / d.frame.start.directions) (sym h.named) named)

admits_alike : (c d : Core) (r : ℕ) → Agree c d → AdmitsNothing d r → AdmitsNothing c r
admits_alike c d r h nothing = along (λ (z : Core). AdmitsNothing z r) c d (λ notes p. p) h nothing

noted_agree : (c d : Core) (m n : Note) → m.state ≡ n.state → Agree c d → Agree (noted c m) (noted d n)
noted_agree c d m n e h = record {
  frames = h.frames;
  words = h.words;
  workers = h.workers;
  named = map-append (λ (note : Note). note.state) c.notes (m ∷ []) ∙ ap (λ (xs : List ℕ). xs ++ m.state ∷ []) h.named
      ∙ ap (λ (s : ℕ). states_in d.notes ++ s ∷ []) e ∙ sym (map-append (λ (note : Note). note.state) d.notes (n ∷ []));
}

clearings_agree : (c d x y : Core) (r : ℕ) → Agree c d → IsMoved c (Clear r) x → IsMoved d (Clear r) y → Agree x y
clearings_agree c d x y r h (inl (named, p)) (inl (named', q)) = follow (λ z. cleared z r) c d x y (record { passes = λ z notes. refl }) h p q
clearings_agree c d x y r h (inl (named, p)) (inr (inl (new, nothing, rest))) = absurd (new (names_alike d c r (agree_back c d h) named))
clearings_agree c d x y r h (inl (named, p)) (inr (inr (new, some, rest))) = absurd (new (names_alike d c r (agree_back c d h) named))
clearings_agree c d x y r h (inr (inl (new, nothing, rest))) (inl (named, q)) = absurd (new (names_alike c d r h named))
clearings_agree c d x y r h (inr (inl (new, nothing, (m, state, over, p)))) (inr (inl (new', nothing', (n, state', over', q)))) =
    let same : m.state ≡ n.state = state ∙ ap (λ (f : Frame). r / f.start.directions) h.frames ∙ sym state' in
    follow (λ z. cleared z r) (noted c m) (noted d n) x y (record { passes = λ z notes. refl }) (noted_agree c d m n same h) p q
clearings_agree c d x y r h (inr (inl (new, nothing, rest))) (inr (inr (new', some, q))) = absurd (some (admits_alike d c r (agree_back c d h) nothing))
clearings_agree c d x y r h (inr (inr (new, some, rest))) (inl (named, q)) = absurd (new (names_alike c d r h named))
clearings_agree c d x y r h (inr (inr (new, some, p))) (inr (inl (new', nothing, rest))) = absurd (some (admits_alike c d r h nothing))
clearings_agree c d x y r h (inr (inr (new, some, p))) (inr (inr (new', some', q))) = follow (λ z. z) c d x y (record { passes = λ z notes. refl }) h p q

moves_agree : (c d x y : Core) (m : Move) → Agree c d → IsMoved c m x → IsMoved d m y → Agree x y
moves_agree c d x y (Load w r) h p q = follow (λ z. loaded z w r) c d x y (record { passes = λ z notes. refl }) h p q
moves_agree c d x y (Lower w r) h (l, level, p) (k, level', q) =
    let other : IsRowLevelOf c.frame (seen_by c w) r k = along (λ (z : Core). IsRowLevelOf z.frame (seen_by z w) r k) c d (λ notes p. p) h level' in
    let same : l ≡ k = unique c.frame.problem (levels_in (seen_by c w)) (r / c.frame.start.directions) (r % c.frame.start.directions) l k level other in
    lowerings_agree c d x y w r k h (p ∙ ap (lowered_to c w r) same) q
moves_agree c d x y (Clear r) h p q = clearings_agree c d x y r h p q

pub replays_of_agreeing : (c d x y : Core) (moves : List Move) → Agree c d → IsReplay c moves x → IsReplay d moves y → Agree x y
replays_of_agreeing c d x y [] h p q = follow (λ z. z) c d x y (record { passes = λ z notes. refl }) h p q
replays_of_agreeing c d x y (m ∷ moves) h (u, first, rest) (v, first', rest') = replays_of_agreeing u v x y moves (moves_agree c d u v m h first first') rest rest'

pub replays_from_one : (f : Frame) (n : ℕ) (notes : List Note) (moves : List Move) (c d : Core) → IsReplay (started f n notes) moves c → IsReplay (started f n notes) moves d → Agree c d
replays_from_one f n notes moves c d p q =
    replays_of_agreeing (started f n notes) (started f n notes) c d moves (record { frames = refl; words = refl; workers = refl; named = refl }) p q
