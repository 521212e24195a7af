-- What clauses see of a shelf of real files.
use Rattle.std.specs.Prelude.{ℕ}

-- its two counts
pub record FileCounts : Type 0 where
  pub faults : ℕ
  pub overlong : ℕ
