-- where a run ends
use Rattle.std.proofs.Common.{Result, Ok, Err, None, List, [], inr, ◌≡◌, ℕ, suc, ◌+◌, ◌*◌, ◌/◌, ◌<◌, ◌≤◌, length, refl, sym, ap, ◌∙◌, subst, arith, ℤ, pos, ◌+ℤ◌, ◌-ℤ◌, ◌*ℤ◌, ◌≤ℤ◌}
use Rattle.std.specs.Prelude.{IfOk, negsuc}
use Rattle.std.proofs.Math.Nat.{mod-lt, div-add-mod, mul-le-mul}
use Rattle.std.proofs.lemmas.Int.{ints}
use Rattle.exact_algebra.proofs.Order.{at_most_trans}
use Rattle.game_model.specs.Game.{states}
use Rattle.level_table.specs.Supported.{IsGreatest, IsSupported}
use Rattle.level_table.specs.declared.level.Level.{Level}
use Rattle.level_table.specs.declared.reason.Note.{Note}
use Rattle.level_table.specs.Problem.{Problem, direction_count, IsProblem}
use Rattle.level_table.specs.Levels.{AtMost, IsBelow, IsNumber, IsRow, Levels, Table, levels_in, opening_table}
use Rattle.level_table.specs.Operator.{IsRowLevel}
use Rattle.level_table.specs.Iterates.{drop_of}
use Rattle.level_table.specs.Start.{IsBetween, IsStart}
use Rattle.level_table.specs.Tables.{IsOpening, IsSmallTable, IsWhole}
use Rattle.bound_laws.specs.Falls.{most_drop}
use Rattle.bound_laws.specs.Laws.{HasBounds}
use Rattle.bound_laws.proofs.Bounding.{kept_bounds}
use Rattle.bound_laws.proofs.Falls.{below_first_iterate, below_next_iterate, drop_at_most, drop_grows, no_drop_at_start, drop_rises, range_is_floor}
use Rattle.bound_laws.proofs.Levels.{level_at_most_self, level_at_most_from_same}
use Rattle.bound_laws.proofs.Notes.{notes_above_bound, first_direction}
use Rattle.bound_laws.proofs.Start.{opening_is_start, between_is_below}
use Rattle.operator_laws.proofs.Existence.{iterate_exists, row_level_exists}
use Rattle.set_operator.specs.declared.row.Verdict.{Verdict}
use Rattle.set_operator.specs.declared.row.Verdict.TheVariants.{Supported, Unsupported}
use Rattle.settle_test.specs.Verdicts.{FailsAt, IsVerdict, direction_of, state_of}
use Rattle.settle_test.proofs.Places.{row_here, row_known}
use Rattle.sweep_run.specs.Runs.{IsAfterSweeps, IsEnough, IsLastSweep, IsRunFrom, IsRunning, IsSupportedVerdict}
use Rattle.sweep_run.specs.Sweeper.{IsRunOf, IsSettling, problem_in}
use Rattle.worker_pass.specs.Clearings.{AreNamed, KeepsNotes}
use Rattle.worker_pass.proofs.Naming.{number_is}
use Rattle.sweep_run.specs.Sweeps.{IsRunTable, IsSound, IsSwept}
use Rattle.sweep_run.specs.declared.run.Run.{Run}
use Rattle.sweep_run.specs.declared.sweeper.Sweeper.{Sweeper}
use Rattle.sweep_run.proofs.Naming.{named_rows, named_start}
use Rattle.sweep_run.proofs.Steps.{run_then, same_rows}

-- a start is the table of a run
pub sound_start : (p : Problem) (t : Table) (notes : List Note) → IsStart p (levels_in t) notes → IsSmallTable p t → IsSound p t
sound_start p t notes start small = record { table = small; even = start.even; range = start.between }

pub run_start : (p : Problem) (t : Table) → IsSound p t → IsRunTable p (levels_in t) t
run_start p t sound = record { sound = sound; below = λ s k row. level_at_most_self (levels_in t s k); kept = λ s k row u below supported. below s k row }

-- a table in which a row fails isn't supported
pub fails_unsupported : (p : Problem) (t : Table) (slack row : ℕ) → IsSmallTable p t → row < length t.levels → FailsAt p t slack row → IsSupported p (levels_in t) slack → ⊥
fails_unsupported p t slack row small below fails supported =
    fails.none (supported.supports (state_of p row) (direction_of p row) fails.level (row_known p t row small below) (row_here p t row small ∙ fails.here))

pub one_more_sweep : (p : Problem) (start : Levels) (given : List Note) (slack r : ℕ) (old new : Table) (before after : List Note) → IsAfterSweeps p start given slack r old before → (IsSupported p (levels_in old) slack → ⊥) → IsSwept p old before new after → IsAfterSweeps p start given slack (r + 1) new after
one_more_sweep p start given slack r old new before after so_far none swept =
    let next : suc r ≡ r + 1 = omega arith in
    subst (λ (n : ℕ). IsAfterSweeps p start given slack n new after) next (old, before, so_far, none, swept)

-- a sweep over a table in which a row fails
pub one_more_dropped : (p : Problem) (first : ℤ) (old new : Table) (before after : List Note) (slack sweeps row : ℕ) → IsProblem p → 1 ≤ slack → IsSound p old → row < length old.levels → FailsAt p old slack row → IsSwept p old before new after
    → (first +ℤ pos sweeps) ≤ℤ drop_of p (opening_table p) (levels_in old) → (first +ℤ pos (sweeps + 1)) ≤ℤ drop_of p (opening_table p) (levels_in new)
one_more_dropped p first old new before after slack sweeps row ok some sound below fails swept so_far =
    let s : ℕ = state_of p row in
    let k : ℕ = direction_of p row in
    let here : IsRow p s k = row_known p old row sound.table below in
    let found : (l : Level) × IsRowLevel p (levels_in old) s k l = row_level_exists p (levels_in old) s k ok here in
    let more : (drop_of p (opening_table p) (levels_in old) +ℤ pos 1) ≤ℤ drop_of p (opening_table p) (levels_in new) =
    drop_rises p (opening_table p) (levels_in old) (levels_in new) s k fails.level slack found.0 ok sound.even swept.step.sound.even (range_is_floor p (levels_in old) sound.range) (between_is_below p (levels_in old) sound.range) swept.step.below here
    (row_here p old row sound.table ∙ fails.here) (omega arith) fails.none found.1 (swept.passed (levels_in old) s k found.0 (λ s' k' row'. level_at_most_self (levels_in old s' k')) here found.1) in
    omega (arith, ints, more, so_far)

pub none_dropped : (first : ℤ) → (first +ℤ pos 0) ≤ℤ first
none_dropped first = omega (arith, ints)

-- a supported table of a run is the greatest
greatest_if : (p : Problem) (start : Levels) (slack : ℕ) (t : Table) (v : Verdict) → IsRunTable p start t → IsVerdict p t slack v → slack ≡ 1 → IsSupportedVerdict v → IsGreatest p start (levels_in t)
greatest_if p start slack t (Supported supports) run verdict one settled = record {
  below = run.below;
  supported = subst (λ (m : ℕ). IsSupported p (levels_in t) m) one verdict.0;
  greatest = λ u below supported s k row. run.kept s k row u below supported;
}
greatest_if p start slack t (Unsupported row level reached) run verdict one settled = absurd settled

-- ---- the budget that suffices
too_few_sweeps : (rows budget : ℕ) (m : ℤ) → 0 < rows → (pos rows *ℤ (m +ℤ pos 1)) ≤ℤ pos budget → pos (budget / rows) ≤ℤ m → ⊥
too_few_sweeps rows budget (pos m) positive enough few =
    let a : rows * (m + 1) ≤ budget = omega (arith, ints, enough) in
    let b : budget / rows ≤ m = omega (arith, ints, few) in
    let c : rows * (budget / rows + 1) ≤ rows * (m + 1) = mul-le-mul (omega arith) (omega (arith, b)) in
    omega (arith, a, c, div-add-mod budget rows, mod-lt budget positive)
too_few_sweeps rows budget (negsuc m) positive enough few = omega (arith, ints, few)

few_sweeps : (first sweeps most last : ℤ) → (first +ℤ sweeps) ≤ℤ last → last ≤ℤ most → sweeps ≤ℤ (most -ℤ first)
few_sweeps first sweeps most last a b = omega (arith, ints, a, b)

enough_settles : (p : Problem) (start : Levels) (budget sweeps : ℕ) (t : Table) (v : Verdict) → IsSound p t → IsLastSweep (budget / length t.levels) sweeps v
    → (drop_of p (opening_table p) start +ℤ pos sweeps) ≤ℤ drop_of p (opening_table p) (levels_in t) → IsEnough p start budget → IsSupportedVerdict v
enough_settles p start budget sweeps t (Supported supports) sound last dropped enough = tt
enough_settles p start budget sweeps t (Unsupported row level reached) sound last dropped enough =
    let some_state : 1 ≤ t.states = sound.table.whole.some_state in
    let some_direction : 1 ≤ t.directions = sound.table.whole.some_direction in
    let positive : 1 * 1 ≤ t.states * t.directions = mul-le-mul some_state some_direction in
    let rows : length t.levels ≡ states p.game * direction_count p = sound.table.whole.one_each ∙ ap (λ (n : ℕ). n * t.directions) sound.table.sizes.states_agree ∙ ap (λ (n : ℕ). states p.game * n) sound.table.sizes.directions_agree in
    let left : ℤ = most_drop p (opening_table p) -ℤ drop_of p (opening_table p) start in
    let few : pos sweeps ≤ℤ left =
    few_sweeps (drop_of p (opening_table p) start) (pos sweeps) (most_drop p (opening_table p)) (drop_of p (opening_table p) (levels_in t)) dropped (drop_at_most p (opening_table p) (levels_in t) (range_is_floor p (levels_in t) sound.range)) in
    absurd (too_few_sweeps (length t.levels) budget left (omega (arith, positive, sound.table.whole.one_each))
    (subst (λ (n : ℕ). (pos n *ℤ (left +ℤ pos 1)) ≤ℤ pos budget) (sym rows) enough)
    (subst (λ (n : ℕ). pos n ≤ℤ left) last few))

-- ---- the run
pub last_sweep : (most sweeps : ℕ) (v : Verdict) → sweeps ≡ most → IsLastSweep most sweeps v
last_sweep most sweeps (Supported supports) e = omega (arith, e)
last_sweep most sweeps (Unsupported row level reached) e = e

pub settled_sweep : (most sweeps : ℕ) (v : Verdict) → IsSupportedVerdict v → sweeps ≤ most → IsLastSweep most sweeps v
settled_sweep most sweeps (Supported supports) settled h = h
settled_sweep most sweeps (Unsupported row level reached) settled h = absurd settled

pub run_ends : (p : Problem) (start : Levels) (given : List Note) (slack budget : ℕ) (r : Run) → IsProblem p → HasBounds p start → IsRunning p start given slack r.sweeps r.levels r.notes.list
    → IsVerdict p r.levels slack r.verdict → IsLastSweep (budget / length r.levels.levels) r.sweeps r.verdict → IsRunFrom p start given slack budget r
run_ends p start given slack budget r ok bounds h verdict last = record {
  run = h.run;
  bounds = kept_bounds p start (levels_in r.levels) ok bounds h.run.kept;
  notes = notes_above_bound p start r.notes.list ok bounds h.kept_above;
  kept_above = h.kept_above;
  named = named_rows p (levels_in r.levels) r.notes.list ok h.run.sound.even h.named;
  is_verdict = verdict;
  after = h.after;
  last = last;
  has_iterate = iterate_exists p start r.sweeps ok;
  iterate = h.iterate;
  dropped = h.dropped;
  greatest = λ one settled. greatest_if p start slack r.levels r.verdict h.run verdict one settled;
  enough = λ budget_enough. enough_settles p start budget r.sweeps r.levels r.verdict h.run.sound last h.dropped budget_enough;
}

-- the code's run, from a table with so many rows
pub run_of_ends : (p : Problem) (start : Levels) (given : List Note) (slack budget rows : ℕ) (w : Sweeper) (r : Run) → IsProblem p → HasBounds p start → IsSmallTable p w.scratch.levels → problem_in w ≡ p
    → IsRunning p start given slack 0 w.scratch.levels w.owner.notes → IsRunOf w slack (budget / rows) r → rows ≡ length w.scratch.levels.levels → IsRunFrom p start given slack budget r
run_of_ends p start given slack budget rows w r ok bounds small is began h count =
    let running : IsRunning p start given slack r.sweeps r.levels r.notes.list =
    subst (λ (q : Problem). IsRunning q start given slack r.sweeps r.levels r.notes.list) is (h.running start given (subst (λ (q : Problem). IsRunning q start given slack 0 w.scratch.levels w.owner.notes) (sym is) began)) in
    let same : rows ≡ length r.levels.levels = count ∙ sym (same_rows p w.scratch.levels r.levels small running.run.sound.table) in
    run_ends p start given slack budget r ok bounds running (subst (λ (q : Problem). IsVerdict q r.levels slack r.verdict) is h.is_verdict) (subst (λ (n : ℕ). IsLastSweep (budget / n) r.sweeps r.verdict) same h.last)

-- ---- where a run begins
pub running_start : (p : Problem) (t : Table) (given : List Note) (slack : ℕ) → IsProblem p → IsStart p (levels_in t) given → IsSmallTable p t → IsRunning p (levels_in t) given slack 0 t given
running_start p t given slack ok is_start small = record {
  run = run_start p t (sound_start p t given is_start small);
  named = named_start p (levels_in t) given ok is_start;
  kept_above = is_start.kept_above;
  after = (λ s k row. refl, refl);
  iterate = below_first_iterate p (levels_in t) (levels_in t) (λ s k row. level_at_most_self (levels_in t s k));
  dropped = none_dropped (drop_of p (opening_table p) (levels_in t));
}

pub opening_sound : (p : Problem) (t : Table) → IsProblem p → IsWhole t → IsOpening p t → IsSound p t
opening_sound p t ok whole opening = record {
  table = record { whole = whole; sizes = opening.sizes; small = λ s k row. opening.small (s * t.directions + k) };
  even = λ s known. inr (λ k dir. subst IsNumber (sym (opening.levels s k (record { state = known; direction = dir }))) tt);
  range = λ s k row. subst (IsBetween p k) (sym (opening.levels s k row)) ((opening_is_start p ok).between s k row);
}

pub opening_named : (p : Problem) (t : Table) → IsProblem p → IsOpening p t → AreNamed p (levels_in t) []
opening_named p t ok opening s known =
    let number : IsNumber (levels_in t s 0) = subst IsNumber (sym (opening.levels s 0 (record { state = known; direction = first_direction p ok }))) tt in
    (λ n. absurd (omega (arith, n.1)), λ e. absurd (number_is (levels_in t s 0) number e))

pub running_opening : (p : Problem) (t : Table) (slack : ℕ) → IsProblem p → IsWhole t → IsOpening p t → IsRunning p (opening_table p) [] slack 0 t []
running_opening p t slack ok whole opening =
    let below : IsBelow p (levels_in t) (opening_table p) = λ s k row. level_at_most_from_same _ _ (opening.levels s k row) in
    record {
      run = record {
        sound = opening_sound p t ok whole opening;
        below = below;
        kept = λ s k row u under supported. subst (AtMost (u s k)) (sym (opening.levels s k row)) (under s k row);
      };
      named = opening_named p t ok opening;
      kept_above = (opening_is_start p ok).kept_above;
      after = (opening.levels, refl);
      iterate = below_first_iterate p (opening_table p) (levels_in t) below;
      dropped = at_most_trans (drop_of p (opening_table p) (opening_table p) +ℤ pos 0) (drop_of p (opening_table p) (opening_table p)) (drop_of p (opening_table p) (levels_in t)) (none_dropped (drop_of p (opening_table p) (opening_table p)))
          (drop_grows p (opening_table p) (opening_table p) (levels_in t) ok (range_is_floor p (opening_table p) (opening_is_start p ok).between) below);
    }

pub opening_dropped : (p : Problem) (sweeps : ℕ) (z : ℤ) → IsProblem p → (drop_of p (opening_table p) (opening_table p) +ℤ pos sweeps) ≤ℤ z → pos sweeps ≤ℤ z
opening_dropped p sweeps z ok h = from_zero (drop_of p (opening_table p) (opening_table p)) (no_drop_at_start p (opening_table p) ok (λ s known. inr (λ k dir. tt))) h
  where
    from_zero : (d : ℤ) → d ≡ pos 0 → (d +ℤ pos sweeps) ≤ℤ z → pos sweeps ≤ℤ z
    from_zero d e k = omega (arith, ints, e, k)

-- ---- from one sweep to the next
-- the same problem, levels and notes
pub running_same : (start : Levels) (given : List Note) (slack sweeps : ℕ) (p q : Problem) (t u : Table) (ns ms : List Note) → q ≡ p → u ≡ t → ms ≡ ns → IsRunning p start given slack sweeps t ns → IsRunning q start given slack sweeps u ms
running_same start given slack sweeps p q t u ns ms a b c h = subst (λ (X : Type 0). X) (λ i. IsRunning (sym a i) start given slack sweeps (sym b i) (sym c i)) h

pub running_next : (p : Problem) (start : Levels) (given : List Note) (slack sweeps : ℕ) (t u : Table) (before after : List Note) → IsProblem p → 1 ≤ slack → IsRunning p start given slack sweeps t before → IsSettling p t slack None
    → IsSwept p t before u after → KeepsNotes p (levels_in t) before after → AreNamed p (levels_in u) after → IsRunning p start given slack (sweeps + 1) u after
running_next p start given slack sweeps t u before after ok some h (row, below, fails) swept noted named = record {
  run = run_then p start t u h.run swept.step;
  named = named;
  kept_above = noted start h.run.kept h.kept_above;
  after = one_more_sweep p start given slack sweeps t u before after h.after (fails_unsupported p t slack row h.run.sound.table below fails) swept;
  iterate = below_next_iterate p start (levels_in t) (levels_in u) sweeps h.iterate swept.step.below swept.passed;
  dropped = one_more_dropped p (drop_of p (opening_table p) start) t u before after slack sweeps row ok some h.run.sound below fails swept h.dropped;
}

-- ---- what the code makes of the end
pub run_made : (first v : Sweeper) (slack most sweeps : ℕ) (verdict : Verdict) (r : Run) → problem_in v ≡ problem_in first
    → ((start : Levels) (given : List Note) → IsRunning (problem_in first) start given slack 0 first.scratch.levels first.owner.notes → IsRunning (problem_in first) start given slack sweeps v.scratch.levels v.owner.notes)
    → IsVerdict (problem_in first) v.scratch.levels slack verdict → IsLastSweep most sweeps verdict → r.levels ≡ v.scratch.levels → r.notes.list ≡ v.owner.notes → r.sweeps ≡ sweeps → r.verdict ≡ verdict → IsRunOf first slack most r
run_made first v slack most sweeps verdict r same running is_verdict last e f g i = record {
  is_verdict = subst (λ (X : Type 0). X) (λ j. IsVerdict (problem_in first) (sym e j) slack (sym i j)) is_verdict;
  last = subst (λ (X : Type 0). X) (λ j. IsLastSweep most (sym g j) (sym i j)) last;
  running = λ start given began. subst (λ (X : Type 0). X) (λ j. IsRunning (problem_in first) start given slack (sym g j) (sym e j) (sym f j)) (running start given began);
}

pub if_ok : {X E : Type 0} (r : Result X E) (P Q : X → Type 0) → ((x : X) → P x → Q x) → IfOk r P → IfOk r Q
if_ok (Ok x) P Q f h = f x h
if_ok (Err e) P Q f h = tt
