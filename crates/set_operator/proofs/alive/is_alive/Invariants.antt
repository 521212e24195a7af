use Rattle.std.proofs.Common.{ℕ, ◌<◌}
use Rattle.level_table.specs.Levels.{levels_in}
use Rattle.level_table.specs.Operator.{Fractions, Admissible}
use Rattle.set_operator.proofs.alive.is_alive.Given as goal

abbrev pub invariant-loop-a : goal.invariant-loop-a
invariant-loop-a l = (b : ℕ) (y : Fractions) → b < l.a → Admissible l.fn.p (levels_in l.fn.levels) l.fn.state b y → ⊥
