-- what a sweep of the workers makes of a run
use Rattle.std.proofs.Common.{◌≡◌, inl, inr, ℕ, ◌*◌, ◌/◌, ◌%◌, List, refl, sym, ap, subst, ◌∙◌, arith}
use Rattle.std.proofs.lemmas.Bool.{cases_eq}
use Rattle.level_table.specs.declared.level.Level.{Level}
use Rattle.level_table.specs.declared.level.Level.TheVariants.{Empty, At}
use Rattle.level_table.specs.declared.reason.Note.{Note}
use Rattle.level_table.specs.Levels.{Table, IsBelow, IsNumber, IsSmall, AtMost, level_at, levels_in}
use Rattle.level_table.specs.Notes.{Named}
use Rattle.level_table.specs.Start.{IsBetween, IsStart}
use Rattle.level_table.specs.Supported.{IsEven}
use Rattle.level_table.specs.Tables.{IsSmallTable}
use Rattle.bound_laws.proofs.Levels.{level_at_most_self}
use Rattle.level_board.specs.Board.{OwnerView}
use Rattle.schedule_core.specs.Frame.{Frame, IsFallen, IsFrame, IsSeen, NamesEmpty}
use Rattle.schedule_core.proofs.Levels.{by_row, row_known, row_of}
use Rattle.worker_pass.specs.Clearings.{AreNamed, KeepsNotes}
use Rattle.worker_pass.specs.Sweeps.{HoldsButFirst, IsCleared, IsSweep}
use Rattle.worker_pass.specs.declared.sweeping.SweepNote.{SweepNote}
use Rattle.worker_pass.proofs.Falling.{below_rows}
use Rattle.worker_pass.proofs.Naming.{all_empty, number_is}
use Rattle.worker_pass.proofs.States.{kept_along}
use Rattle.sweep_run.specs.Sweeps.{IsSound, IsStep, IsSwept, StaysNumber}
use Rattle.sweep_run.proofs.Rows.{below_trans}

-- ---- tables that were seen
pub small_seen : (f : Frame) (t : Table) → IsFrame f → IsSeen f t → IsSmallTable f.problem t
small_seen f t ok seen = record {
  whole = record {
    some_state = omega (arith, ok.whole.some_state, seen.states_agree);
    few_states = omega (arith, ok.whole.few_states, seen.states_agree);
    some_direction = omega (arith, ok.whole.some_direction, seen.directions_agree);
    few_directions = omega (arith, ok.whole.few_directions, seen.directions_agree);
    one_each = seen.one_each ∙ sym (ap (λ (n : ℕ). n * t.directions) seen.states_agree ∙ ap (λ (n : ℕ). f.start.states * n) seen.directions_agree);
  };
  sizes = record { states_agree = seen.states_agree ∙ ok.sizes.states_agree; directions_agree = seen.directions_agree ∙ ok.sizes.directions_agree };
  small = by_row f t (λ s k l. IsSmall l) ok seen.directions_agree (λ r below. (seen.sound r below).small);
}

pub sound_seen : (f : Frame) (t : Table) → IsFrame f → IsSeen f t → IsEven f.problem (levels_in t) → IsSound f.problem t
sound_seen f t ok seen even = record {
  table = small_seen f t ok seen;
  even = even;
  range = by_row f t (λ s k l. IsBetween f.problem k l) ok seen.directions_agree (λ r below. (seen.sound r below).within.0);
}

-- what the owner has seen is at most the table of the run
pub owner_below : (f : Frame) (t u : Table) → IsSeen f t → IsSeen f u → HoldsButFirst t u → IsFallen t u
owner_below f t u a b h = record {
  states_agree = b.states_agree ∙ sym a.states_agree;
  directions_agree = b.directions_agree ∙ sym a.directions_agree;
  one_each = b.one_each ∙ sym a.one_each;
  fell = λ r. elim (cases_eq r 0) [
    | inl e ↦ subst (λ (k : ℕ). AtMost (level_at u k) (level_at t k)) (sym e) h.first
    | inr ne ↦ subst (λ (l : Level). AtMost l (level_at t r)) (sym (h.others r ne)) (level_at_most_self (level_at t r))
  ];
}

-- ---- steps
pub step_seen : (f : Frame) (t u : Table) → IsFrame f → IsSeen f t → IsSeen f u → IsEven f.problem (levels_in u) → IsBelow f.problem (levels_in u) (levels_in t) → IsStep f.problem t u
step_seen f t u ok seen seen' even below = record {
  sound = sound_seen f u ok seen' even;
  below = below;
  kept = kept_along f t u (levels_in t) ok seen seen' (λ s k row w under supported. under s k row);
}

-- a number stays one until its state has a note
pub numbers_stay : (f : Frame) (t u : Table) (notes : List Note) → IsFrame f → IsEven f.problem (levels_in t) → AreNamed f.problem (levels_in t) notes → IsSeen f u → NamesEmpty f notes u → StaysNumber f.problem (levels_in t) (levels_in u)
numbers_stay f t u notes ok even named seen empty s k row number = cases (levels_in u s k) (by_row f u (λ s k l. l ≡ Empty → Named notes s) ok seen.directions_agree empty s k row)
  where
    cases : (l : Level) → (l ≡ Empty → Named notes s) → IsNumber l
    cases (At x) h = tt
    cases Empty h = absurd (number_is (levels_in t s k) number (all_empty f.problem (levels_in t) s k ok.problem even row.state ((named s row.state).0 (h refl)) row.direction))

-- ---- a sweep
pub swept : (f : Frame) (o n : OwnerView) (t u : Table) (note : SweepNote) → IsFrame f → IsSeen f t → IsSeen f o.seen → IsEven f.problem (levels_in t) → AreNamed f.problem (levels_in t) o.notes → HoldsButFirst t o.seen
    → IsSweep f o n u note → IsSwept f.problem t o.notes u n.notes
swept f o n t u note ok seen o_seen even named holds sweep =
    let under : IsFallen t o.seen = owner_below f t o.seen seen o_seen holds in
    let loaded : IsBelow f.problem (levels_in sweep.loaded) (levels_in t) = below_trans f.problem (levels_in sweep.loaded) (levels_in o.seen) (levels_in t) (below_rows f.problem o.seen sweep.loaded sweep.fell) (below_rows f.problem t o.seen under) in
    let left : IsBelow f.problem (levels_in u) (levels_in t) = below_trans f.problem (levels_in u) (levels_in sweep.loaded) (levels_in t) (below_rows f.problem sweep.loaded u sweep.left) loaded in
    record {
      step = step_seen f t u ok seen sweep.left_sound sweep.left_even left;
      passed = λ v s k l below row level. sweep.passed v s k l (below_trans f.problem (levels_in o.seen) (levels_in t) v (below_rows f.problem t o.seen under) below) row level;
      lowered = sweep.loaded;
      lowering = step_seen f t sweep.loaded ok seen sweep.sound sweep.even loaded;
      numbers = numbers_stay f t sweep.loaded o.notes ok even named sweep.sound sweep.named;
      clearing = sweep.clearing;
    }

pub noted : (f : Frame) (o n : OwnerView) (t u : Table) (note : SweepNote) → IsFrame f → IsSeen f t → IsSweep f o n u note → KeepsNotes f.problem (levels_in t) o.notes n.notes
noted f o n t u note ok seen sweep start kept before = sweep.noted start (kept_along f t sweep.loaded start ok seen sweep.sound kept) before

-- ---- a start
pub cleared_start : (f : Frame) (notes : List Note) → IsFrame f → IsStart f.problem (levels_in f.start) notes → IsCleared f notes f.start
cleared_start f notes ok start r known named =
    subst (λ (n : ℕ). level_at f.start n ≡ Empty) (row_of f r) (start.emptied (r / f.start.directions) (r % f.start.directions) (row_known f r ok known) named)
