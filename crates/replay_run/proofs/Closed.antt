-- What holds between moves, and that each move keeps it.
use Rattle.std.proofs.Common.{◌≡◌, ◌⊎◌, inl, inr, ⊎_elim, ℕ, zero, suc, ◌+◌, ◌-◌, ◌*◌, ◌/◌, ◌%◌, ◌<◌, ◌≤◌, ◌++◌, List, [], ◌∷◌, length, get_or, set, refl, sym, ap, ◌∙◌, subst, arith}
use Rattle.std.proofs.lemmas.Bool.{cases_eq}
use Rattle.std.proofs.Math.Nat.{mod-lt}
use Rattle.std.proofs.lemmas.Nat.{div-add-mod'}
use Rattle.std.proofs.lemmas.List.{get_or-set_other, get_or-set_same, get_or_append_left, get_or_push, length-set, length_push}
use Rattle.std.proofs.lemmas.Bool.{cases_lt}
use Rattle.game_model.specs.Game.{states}
use Rattle.level_table.specs.declared.level.Level.{Level}
use Rattle.level_table.specs.declared.level.Level.TheVariants.{Empty, At}
use Rattle.level_table.specs.declared.reason.Note.{Note}
use Rattle.level_table.specs.Levels.{IsNumber, IsSmall, Table, level_at, levels_in, lesser}
use Rattle.level_table.specs.Notes.{Named, no_note}
use Rattle.level_table.specs.Problem.{direction_count}
use Rattle.level_table.specs.Reasons.{AreReasonsOver}
use Rattle.level_table.specs.Room.{Reasons}
use Rattle.level_table.specs.Tables.{HasSmallOpening, IsSmallTable}
use Rattle.bound_laws.proofs.Levels.{at_most_empty}
use Rattle.schedule_core.specs.declared.moves.Move.{Move}
use Rattle.schedule_core.specs.declared.moves.Move.TheVariants.{Load, Lower, Clear}
use Rattle.schedule_core.specs.Core.{Core, IsValid, IsWorking, Reader, cleared, no_reader, noted, reader_at, seen_by, sees, word_in}
use Rattle.schedule_core.specs.Frame.{Frame, IsFrame, IsNoteOver, IsSeen, rows_of, with_level}
use Rattle.schedule_core.specs.Replays.{IsMoved, lowered_to}
use Rattle.schedule_core.specs.Schedules.{FitsMove}
use Rattle.schedule_core.proofs.Events.{at_worker, fit, owner_works}
use Rattle.schedule_core.proofs.Levels.{by_row, row_known}
use Rattle.schedule_core.specs.Runs.{others, started}
use Rattle.schedule_core.proofs.Replays.{crew_started, move_keeps_crew, move_keeps_frame}
use Rattle.replay_run.specs.Ready.{AreClosed, IsReady}
use Rattle.replay_run.proofs.Noting.{NamesUnknown, note_from, some_empty}

-- ---- what the owner sees stays Empty
abbrev StaysEmpty : Table → Table → Type 0
StaysEmpty t u = (j : ℕ) → level_at t j ≡ Empty → level_at u j ≡ Empty

-- a worker has seen another level, which is Empty where it had seen Empty
owner_sees : (c d : Core) (w r : ℕ) (l : Level) → d.readers ≡ set c.readers w (sees (reader_at c w) r l) → w < length c.readers → r < length (seen_by c w).levels
    → (level_at (seen_by c w) r ≡ Empty → l ≡ Empty) → StaysEmpty (seen_by c 0) (seen_by d 0)
owner_sees c d w r l is worker row new j e =
    subst (λ (vs : List Reader). level_at (get_or vs 0 no_reader).seen j ≡ Empty) (sym is)
    (⊎_elim
    (λ (mine : 0 ≡ w).
    subst (λ (v : Reader). level_at v.seen j ≡ Empty)
    (sym (ap (λ (i : ℕ). get_or (set c.readers w (sees (reader_at c w) r l)) i no_reader) mine ∙ get_or-set_same c.readers w (sees (reader_at c w) r l) no_reader worker))
    (here (subst (λ (i : ℕ). level_at (seen_by c i) j ≡ Empty) mine e)))
    (λ (other : 0 ≡ w → ⊥).
    subst (λ (v : Reader). level_at v.seen j ≡ Empty) (sym (get_or-set_other c.readers w 0 (sees (reader_at c w) r l) no_reader other)) e)
    (cases_eq 0 w))
  where
    here : level_at (seen_by c w) j ≡ Empty → level_at (with_level (seen_by c w) r l) j ≡ Empty
    here h =
        ⊎_elim
        (λ (same : j ≡ r).
        ap (λ (i : ℕ). level_at (with_level (seen_by c w) r l) i) same ∙ get_or-set_same (seen_by c w).levels r l Empty row
        ∙ new (subst (λ (i : ℕ). level_at (seen_by c w) i ≡ Empty) same h))
        (λ (ne : j ≡ r → ⊥). get_or-set_other (seen_by c w).levels r j l Empty ne ∙ h)
        (cases_eq j r)

row_there : (c : Core) (w r : ℕ) → IsValid c → IsWorking c w → r < rows_of c.frame → r < length (seen_by c w).levels
row_there c w r ok works row = omega (arith, row, (fit c w ok works).seen.one_each)

word_empty : (c : Core) (w r : ℕ) → IsValid c → IsWorking c w → r < rows_of c.frame → level_at (seen_by c w) r ≡ Empty → word_in c r ≡ Empty
word_empty c w r ok works row e = at_most_empty (word_in c r) (level_at (seen_by c w) r) ((fit c w ok works).above r row) e

lesser_of_empty : (l m : Level) → l ≡ Empty → lesser l m ≡ Empty
lesser_of_empty l m e = ap (λ (x : Level). lesser x m) e

lower_stays : (c d : Core) (w r : ℕ) (l : Level) → IsValid c → IsWorking c w → r < rows_of c.frame → d ≡ lowered_to c w r l → StaysEmpty (seen_by c 0) (seen_by d 0)
lower_stays c d w r Empty ok works row e = λ j h. ap (λ (x : Core). level_at (seen_by x 0) j) e ∙ h
lower_stays c d w r (At x) ok works row e =
    owner_sees c d w r (lesser (word_in c r) (At x)) (ap (λ (y : Core). y.readers) e) works.there (row_there c w r ok works row)
    (λ h. lesser_of_empty (word_in c r) (At x) (word_empty c w r ok works row h))

clear_stays : (c d : Core) (r : ℕ) → IsValid c → r < rows_of c.frame → d.readers ≡ (cleared c r).readers → StaysEmpty (seen_by c 0) (seen_by d 0)
clear_stays c d r ok row e =
    let o = (owner_works c ok).0 in
    owner_sees c d 0 r Empty e o.there (row_there c 0 r ok o row) (λ h. refl)

-- a cleared row is Empty under what the owner has seen
cleared_empty : (c d : Core) (r : ℕ) → IsValid c → r < rows_of c.frame → d.readers ≡ (cleared c r).readers → level_at (seen_by d 0) r ≡ Empty
cleared_empty c d r ok row e =
    let o = (owner_works c ok).0 in
    subst (λ (vs : List Reader). level_at (get_or vs 0 no_reader).seen r ≡ Empty) (sym e)
    (subst (λ (v : Reader). level_at v.seen r ≡ Empty) (sym (get_or-set_same c.readers 0 (sees (reader_at c 0) r Empty) no_reader o.there))
    (get_or-set_same (seen_by c 0).levels r Empty Empty (row_there c 0 r ok o row)))

-- ---- states with notes
closed_by : (c d : Core) → d.frame ≡ c.frame → d.notes ≡ c.notes → StaysEmpty (seen_by c 0) (seen_by d 0) → AreClosed c → AreClosed d
closed_by c d frame notes stays h s named =
    let dirs : d.frame.start.directions ≡ c.frame.start.directions = ap (λ (f : Frame). f.start.directions) frame in
    let k = h s (subst (λ (ns : List Note). Named ns s) notes named) in (
      k.0,
      subst (λ (m : ℕ). k.0 < m) (sym dirs) k.1,
      subst (λ (m : ℕ). level_at (seen_by d 0) (s * m + k.0) ≡ Empty) (sym dirs) (stays (s * c.frame.start.directions + k.0) k.2),
    )

named_split : (notes : List Note) (n : Note) (u : ℕ) → Named (notes ++ n ∷ []) u → Named notes u ⊎ (n.state ≡ u)
named_split notes n u (l, below, e) =
    ⊎_elim
    (λ (lt : l < length notes). inl (l, lt, ap (λ (m : Note). m.state) (sym (get_or_append_left notes (n ∷ []) no_note l lt)) ∙ e))
    (λ (ge : length notes ≤ l).
    let here : length notes ≡ l = omega (arith, below, length_push notes n) in
    inr (ap (λ (m : Note). m.state) (sym (get_or_push notes n no_note l here)) ∙ e))
    (cases_lt l (length notes))

row_splits : (r n : ℕ) → 0 < n → (r / n) * n + r % n ≡ r
row_splits r n some = div-add-mod' r n

noted_closed : (c d : Core) (r : ℕ) (note : Note) → IsFrame c.frame → IsValid c → r < rows_of c.frame → AreClosed c → note.state ≡ r / c.frame.start.directions
    → d ≡ cleared (noted c note) r → AreClosed d
noted_closed c d r note frame ok row h state e s named =
    let stays = clear_stays c d r ok row (ap (λ (x : Core). x.readers) e) in
    let dirs : d.frame.start.directions ≡ c.frame.start.directions = ap (λ (x : Core). x.frame.start.directions) e in
    let n = c.frame.start.directions in
    let some : 0 < n = omega (arith, frame.whole.some_direction) in
    let found : (k : ℕ) × (k < n) × (level_at (seen_by d 0) (s * n + k) ≡ Empty) = ⊎_elim
    (λ (old : Named c.notes s). let k = h s old in (k.0, k.1, stays (s * n + k.0) k.2))
    (λ (new : note.state ≡ s). (
      r % n,
      mod-lt r some,
      ap (λ (m : ℕ). level_at (seen_by d 0) (m * n + r % n)) (sym new ∙ state) ∙ ap (level_at (seen_by d 0)) (row_splits r n some) ∙ cleared_empty c d r ok row (ap (λ (x : Core). x.readers) e),
    ))
    (named_split c.notes note s (subst (λ (ns : List Note). Named ns s) (ap (λ (x : Core). x.notes) e) named)) in (
      found.0,
      subst (λ (m : ℕ). found.0 < m) (sym dirs) found.1,
      subst (λ (m : ℕ). level_at (seen_by d 0) (s * m + found.0) ≡ Empty) (sym dirs) found.2,
    )

move_closed : (c d : Core) (m : Move) → IsFrame c.frame → IsValid c → IsReady c → FitsMove (length c.readers) (rows_of c.frame) m → IsMoved c m d → AreClosed d
move_closed c d (Load w r) frame ok ready fits e =
    let works = ready.crew w fits.0 in
    closed_by c d (ap (λ (x : Core). x.frame) e) (ap (λ (x : Core). x.notes) e)
    (owner_sees c d w r (word_in c r) (ap (λ (x : Core). x.readers) e) works.there (row_there c w r ok works fits.1) (word_empty c w r ok works fits.1)) ready.closed
move_closed c d (Lower w r) frame ok ready fits (l, level, e) =
    closed_by c d (frame_same l e) (notes_same l e) (lower_stays c d w r l ok (ready.crew w fits.0) fits.1 e) ready.closed
  where
    frame_same : (l : Level) → d ≡ lowered_to c w r l → d.frame ≡ c.frame
    frame_same Empty e = ap (λ (x : Core). x.frame) e
    frame_same (At x) e = ap (λ (y : Core). y.frame) e

    notes_same : (l : Level) → d ≡ lowered_to c w r l → d.notes ≡ c.notes
    notes_same Empty e = ap (λ (x : Core). x.notes) e
    notes_same (At x) e = ap (λ (y : Core). y.notes) e
move_closed c d (Clear r) frame ok ready fits (inl (named, e)) =
    closed_by c d (ap (λ (x : Core). x.frame) e) (ap (λ (x : Core). x.notes) e) (clear_stays c d r ok fits (ap (λ (x : Core). x.readers) e)) ready.closed
move_closed c d (Clear r) frame ok ready fits (inr (inl (new, nothing, (note, state, over, e)))) = noted_closed c d r note frame ok fits ready.closed state e
move_closed c d (Clear r) frame ok ready fits (inr (inr (new, some, e))) =
    closed_by c d (ap (λ (x : Core). x.frame) e) (ap (λ (x : Core). x.notes) e) (λ j h. ap (λ (x : Core). level_at (seen_by x 0) j) e ∙ h) ready.closed

lowered_length : (c d : Core) (w r : ℕ) (l : Level) → d ≡ lowered_to c w r l → length d.readers ≡ length c.readers
lowered_length c d w r Empty e = ap (λ (x : Core). length x.readers) e
lowered_length c d w r (At x) e = ap (λ (y : Core). length y.readers) e ∙ length-set c.readers w (sees (reader_at c w) r (lesser (word_in c r) (At x)))

pub move_length : (c d : Core) (m : Move) → IsMoved c m d → length d.readers ≡ length c.readers
move_length c d (Load w r) e = ap (λ (x : Core). length x.readers) e ∙ length-set c.readers w (sees (reader_at c w) r (word_in c r))
move_length c d (Lower w r) (l, level, e) = lowered_length c d w r l e
move_length c d (Clear r) (inl (named, e)) = ap (λ (x : Core). length x.readers) e ∙ length-set c.readers 0 (sees (reader_at c 0) r Empty)
move_length c d (Clear r) (inr (inl (new, nothing, (note, state, over, e)))) = ap (λ (x : Core). length x.readers) e ∙ length-set c.readers 0 (sees (reader_at c 0) r Empty)
move_length c d (Clear r) (inr (inr (new, some, e))) = ap (λ (x : Core). length x.readers) e

pub move_frame : (c d : Core) (m : Move) → IsReady c → FitsMove (length c.readers) (rows_of c.frame) m → IsMoved c m d → d.frame ≡ c.frame
move_frame c d m ready fits moved = move_keeps_frame (length c.readers) c d m ready.some ready.crew fits moved

pub move_ready : (c d : Core) (m : Move) → IsFrame c.frame → IsValid c → IsReady c → FitsMove (length c.readers) (rows_of c.frame) m → IsMoved c m d → IsReady d
move_ready c d m frame ok ready fits moved =
    let same = move_length c d m moved in
    let crew = move_keeps_crew (length c.readers) c d m ready.some ready.crew fits moved in record {
      some = omega (arith, ready.some, same);
      crew = λ w below. crew w (omega (arith, below, same));
      closed = move_closed c d m frame ok ready fits moved;
    }

-- ---- what the owner has seen names exactly the states with notes
number_is : (l : Level) → IsNumber l → l ≡ Empty → ⊥
number_is l n e = subst IsNumber e n

pub names_unknown : (c : Core) → IsFrame c.frame → IsValid c → AreClosed c → NamesUnknown c.frame.problem (levels_in (seen_by c 0)) c.notes
names_unknown c frame ok closed =
    let o = owner_works c ok in
    let t = seen_by c 0 in
    let seen = (fit c 0 ok o.0).seen in record {
      known = λ s state named numbers.
          let k = closed s named in
          number_is (level_at t (s * t.directions + k.0)) (numbers k.0 (omega (arith, k.1, frame.sizes.directions_agree)))
          (ap (λ (n : ℕ). level_at t (s * n + k.0)) seen.directions_agree ∙ k.2);
      unknown = λ s state none.
          let k = some_empty (levels_in t s) (direction_count c.frame.problem) none in
          by_row c.frame t (λ u j l. l ≡ Empty → Named c.notes u) frame seen.directions_agree (λ r below e. ok.named 0 (reader_at c 0) (at_worker c 0 o.0) o.1 r below e)
          s k.0 (record { state = state; direction = k.1 }) k.2;
    }

-- ---- what a worker has seen is a table of the problem
pub seen_small : (f : Frame) (t : Table) → IsFrame f → IsSeen f t → IsSmallTable f.problem t
seen_small f t ok seen = record {
  whole = record {
    some_state = omega (arith, ok.whole.some_state, seen.states_agree);
    few_states = omega (arith, ok.whole.few_states, seen.states_agree);
    some_direction = omega (arith, ok.whole.some_direction, seen.directions_agree);
    few_directions = omega (arith, ok.whole.few_directions, seen.directions_agree);
    one_each = seen.one_each ∙ ap (λ (n : ℕ). n * f.start.directions) (sym seen.states_agree) ∙ ap (λ (n : ℕ). t.states * n) (sym seen.directions_agree);
  };
  sizes = record { states_agree = seen.states_agree ∙ ok.sizes.states_agree; directions_agree = seen.directions_agree ∙ ok.sizes.directions_agree };
  small = by_row f t (λ s k l. IsSmall l) ok seen.directions_agree (λ r below. (seen.sound r below).small);
}

pub small_opening : (f : Frame) → IsFrame f → HasSmallOpening f.problem
small_opening f ok k below = ok.small k (omega (arith, below, ok.sizes.directions_agree))

-- ---- the start
pub others_length : (t : Table) (n : ℕ) → length (others t n) ≡ n
others_length t zero = refl
others_length t (suc n) = let h = others_length t n in omega arith

pub start_ready : (f : Frame) (n : ℕ) → IsReady (started f n [])
start_ready f n = record {
  some = omega arith;
  crew = λ w below. crew_started f n [] w (omega (arith, below, others_length f.start n));
  closed = λ s named. absurd (let below = named.1 in omega arith);
}

-- ---- a note of the row's state
pub right_note : (c : Core) (r n : ℕ) (reasons : Reasons) → IsFrame c.frame → IsValid c → AreClosed c → r < rows_of c.frame → n ≡ c.frame.start.directions → (Named c.notes (r / n) → ⊥)
    → AreReasonsOver c.frame.problem (levels_in (seen_by c 0)) (r / c.frame.start.directions) reasons.list → IsNoteOver c.frame (seen_by c 0) c.notes (record { state = r / n; reasons = reasons })
right_note c r n reasons frame ok closed row is new over =
    let place : r / c.frame.start.directions ≡ r / n = ap (λ (m : ℕ). r / m) (sym is) in
    note_from c.frame.problem (levels_in (seen_by c 0)) c.notes (record { state = r / n; reasons = reasons }) frame.problem (names_unknown c frame ok closed)
    (subst (λ (s : ℕ). s < states c.frame.problem.game) place (row_known c.frame r frame row).state) new
    (subst (λ (s : ℕ). AreReasonsOver c.frame.problem (levels_in (seen_by c 0)) s reasons.list) place over)

pub workers_there : (f : Frame) (n workers : ℕ) → 0 < workers → n ≡ workers - 1 → length (started f n []).readers ≡ workers
workers_there f n workers some is = let h = others_length f.start n in omega arith
