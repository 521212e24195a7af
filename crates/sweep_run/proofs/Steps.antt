-- what a sweep leaves of a table
use Rattle.std.proofs.Common.{◌≡◌, ◌*◌, length, sym, ◌∙◌}
use Rattle.level_table.specs.Problem.{Problem}
use Rattle.level_table.specs.Levels.{Levels, Table, levels_in}
use Rattle.level_table.specs.Tables.{IsSmallTable}
use Rattle.bound_laws.specs.Laws.{KeepsSupported}
use Rattle.sweep_run.specs.Sweeps.{IsRunTable, IsStep}
use Rattle.sweep_run.proofs.Rows.{below_trans}

-- ---- steps
-- what a start's tables keep
pub kept_then : (p : Problem) (start : Levels) (t u : Table) → KeepsSupported p start (levels_in t) → IsStep p t u → KeepsSupported p start (levels_in u)
kept_then p start t u kept step s k row w below supported = step.kept s k row w (λ s' k' row'. kept s' k' row' w below supported) supported

pub run_then : (p : Problem) (start : Levels) (t u : Table) → IsRunTable p start t → IsStep p t u → IsRunTable p start u
run_then p start t u run step = record {
  sound = step.sound;
  below = below_trans p (levels_in u) (levels_in t) start step.below run.below;
  kept = kept_then p start t u run.kept step;
}

pub same_rows : (p : Problem) (t u : Table) → IsSmallTable p t → IsSmallTable p u → length u.levels ≡ length t.levels
same_rows p t u x y =
    let a : length t.levels ≡ t.states * t.directions = x.whole.one_each in
    let b : length u.levels ≡ u.states * u.directions = y.whole.one_each in
    let s : t.states ≡ u.states = x.sizes.states_agree ∙ sym y.sizes.states_agree in
    let d : t.directions ≡ u.directions = x.sizes.directions_agree ∙ sym y.sizes.directions_agree in cc
