use Rattle.std.proofs.Common.{◌≡◌, ◌*◌, ◌^◌, ◌≤◌, pos}
use Rattle.std.specs.Prelude.{unsigned_abs}
use Rattle.game_model.specs.SelfGeneration.{sum_below}
use Rattle.level_table.specs.Iterates.{number_of}
use Rattle.level_table.specs.Levels.{level_at}
use Rattle.make_run.specs.Summary.{finite_count}
use Rattle.make_run.proofs.summary.finite.Given as goal

abbrev pub invariant-loop-row : goal.invariant-loop-row
invariant-loop-row l = record {
  rows : pos l.rows ≡ sum_below (λ row. finite_count (level_at l.fn.levels row)) l.row;
  few : l.rows ≤ l.row;
  total : l.total ≡ sum_below (λ row. number_of (level_at l.fn.levels row)) l.row;
  small : unsigned_abs l.total ≤ 2 ^ 50 * l.row;
}
