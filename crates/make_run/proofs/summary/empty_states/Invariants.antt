use Rattle.std.proofs.Common.{◌≡◌, ◌≤◌, pos}
use Rattle.game_model.specs.SelfGeneration.{sum_below}
use Rattle.level_table.specs.Levels.{levels_in}
use Rattle.make_run.specs.Summary.{empty_count}
use Rattle.make_run.proofs.summary.empty_states.Given as goal

abbrev pub invariant-loop-s : goal.invariant-loop-s
invariant-loop-s l = record {
  count : pos l.count ≡ sum_below (λ s. empty_count (levels_in l.fn.levels s 0)) l.s;
  few : l.count ≤ l.s;
}
