-- levels of rows
use Rattle.level_table.specs.Problem.{Problem}
use Rattle.level_table.specs.Levels.{Levels, IsBelow}
use Rattle.bound_laws.proofs.Levels.{level_at_most_trans}

pub below_trans : (p : Problem) (t u v : Levels) → IsBelow p t u → IsBelow p u v → IsBelow p t v
below_trans p t u v h k s d row = level_at_most_trans _ _ _ (h s d row) (k s d row)
