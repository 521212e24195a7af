use Rattle.std.proofs.Common.{◌≡◌, ℕ, ◌^◌, ◌<◌, ◌≤◌, get_or, pos, length}
use Rattle.std.specs.Int.RustNames.{unsigned_abs}
use Rattle.level_table.specs.Problem.{opening_level, problem_of}
use Rattle.level_table.proofs.openings.opening_levels.Given as goal

abbrev pub invariant-loop-k : goal.invariant-loop-k
invariant-loop-k l = record {
  count : length l.levels ≡ 32;
  levels : (k : ℕ) → k < l.k → get_or l.levels k (pos 0) ≡ opening_level (problem_of l.game l.dirs l.grid) k;
  small : (k : ℕ) → k < l.k → unsigned_abs (opening_level (problem_of l.game l.dirs l.grid) k) ≤ 2 ^ 50;
}
