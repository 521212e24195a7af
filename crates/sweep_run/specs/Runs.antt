-- What a run of sweeps finds.
use Rattle.std.specs.Prelude.{◌≡◌, ◌↔◌, ℕ, zero, suc, ◌*◌, ◌/◌, ◌≤◌, List, length, pos, ◌+ℤ◌, ◌-ℤ◌, ◌*ℤ◌, ◌≤ℤ◌}
use Rattle.game_model.specs.Game.{states}
use Rattle.level_table.specs.declared.level.Level.TheVariants.{Empty}
use Rattle.level_table.specs.declared.reason.Note.{Note}
use Rattle.level_table.specs.Problem.{Problem, direction_count}
use Rattle.level_table.specs.Levels.{Levels, Table, IsRow, levels_in, opening_table}
use Rattle.level_table.specs.Notes.{AreNotes, Named, bounding}
use Rattle.level_table.specs.Supported.{IsGreatest, IsSupported}
use Rattle.level_table.specs.Iterates.{IsIterate, drop_of}
use Rattle.bound_laws.specs.Falls.{IsBelowIterate, most_drop}
use Rattle.bound_laws.specs.Laws.{HasBounds, HasKeptAbove}
use Rattle.set_operator.specs.declared.row.Verdict.{Verdict}
use Rattle.set_operator.specs.declared.row.Verdict.TheVariants.{Supported, Unsupported}
use Rattle.settle_test.specs.Verdicts.{IsVerdict}
use Rattle.worker_pass.specs.Clearings.{AreNamed, AreSame}
use Rattle.sweep_run.specs.Sweeps.{IsRunTable, IsSwept}
use Rattle.sweep_run.specs.declared.run.Run.{Run}

abbrev pub IsSupportedVerdict : Verdict → Type 0
IsSupportedVerdict (Supported supports) = Unit {0}
IsSupportedVerdict (Unsupported row level reached) = ⊥

-- A run ends with a supported table, or after all its sweeps.
abbrev pub IsLastSweep : ℕ → ℕ → Verdict → Type 0
IsLastSweep most sweeps (Supported supports) = sweeps ≤ most
IsLastSweep most sweeps (Unsupported row level reached) = sweeps ≡ most

-- A run of so many sweeps from the start and its notes: none of the tables before this one is supported within the slack, and each sweep made the next of the one before, with its notes.
abbrev pub IsAfterSweeps : Problem → Levels → List Note → ℕ → ℕ → Table → List Note → Type 0
IsAfterSweeps p start given slack zero t notes = AreSame p start (levels_in t) × (notes ≡ given)
IsAfterSweeps p start given slack (suc r) t notes =
    (u : Table) × (before : List Note) × IsAfterSweeps p start given slack r u before × (IsSupported p (levels_in u) slack → ⊥) × IsSwept p u before t notes

-- What a run keeps from sweep to sweep: notes of exactly the Empty states, whose kept levels are at least those of every supported table; a table at most the iterate after as many steps, that has dropped by one for each sweep.
pub record IsRunning (p : Problem) (start : Levels) (given : List Note) (slack sweeps : ℕ) (t : Table) (notes : List Note) : Type 0 where
  pub run : IsRunTable p start t
  pub named : AreNamed p (levels_in t) notes
  pub kept_above : HasKeptAbove p start notes
  pub after : IsAfterSweeps p start given slack sweeps t notes
  pub iterate : IsBelowIterate p start sweeps (levels_in t)
  pub dropped : (drop_of p (opening_table p) start +ℤ pos sweeps) ≤ℤ drop_of p (opening_table p) (levels_in t)

-- The budget has solves for one sweep more than the start can drop: down to the floor of the opening in each row, and each state once to Empty.
abbrev pub IsEnough : Problem → Levels → ℕ → Type 0
IsEnough p start budget =
    (pos (states p.game * direction_count p) *ℤ ((most_drop p (opening_table p) -ℤ drop_of p (opening_table p) start) +ℤ pos 1)) ≤ℤ pos budget

-- Where a run from the start ends. Its levels bound, its notes are right and name exactly the Empty states, and the verdict is the settling test's. With slack 1 a settled table is the greatest supported one, and with a budget that is enough the run is settled.
pub record IsRunFrom (p : Problem) (start : Levels) (given : List Note) (slack budget : ℕ) (r : Run) : Type 0 where
  pub run : IsRunTable p start r.levels
  pub bounds : HasBounds p (levels_in r.levels)
  pub notes : AreNotes p (bounding p) r.notes.list
  pub kept_above : HasKeptAbove p start r.notes.list
  pub named : (s k : ℕ) → IsRow p s k → ((levels_in r.levels s k ≡ Empty) ↔ Named r.notes.list s)
  pub is_verdict : IsVerdict p r.levels slack r.verdict
  pub after : IsAfterSweeps p start given slack r.sweeps r.levels r.notes.list
  pub last : IsLastSweep (budget / length r.levels.levels) r.sweeps r.verdict
  pub has_iterate : (t : Levels) × IsIterate p start r.sweeps t
  pub iterate : IsBelowIterate p start r.sweeps (levels_in r.levels)
  -- Each sweep drops by at least one.
  pub dropped : (drop_of p (opening_table p) start +ℤ pos r.sweeps) ≤ℤ drop_of p (opening_table p) (levels_in r.levels)
  pub greatest : slack ≡ 1 → IsSupportedVerdict r.verdict → IsGreatest p start (levels_in r.levels)
  pub enough : IsEnough p start budget → IsSupportedVerdict r.verdict
