-- What the operator answers for a row.
use Rattle.std.specs.Prelude.{◌≡◌, ℕ, ◌^◌, ◌≤◌, List, [], All, ℤ, pos, ◌≤ℤ◌}
use Rattle.std.specs.Int.RustNames.{unsigned_abs}
use Rattle.pay_frac.specs.Ratio.{Ratio, IsLowest, Equals}
use Rattle.level_table.specs.declared.level.Level.TheVariants as levels
use Rattle.level_table.specs.declared.reason.Reason.{Reason}
use Rattle.level_table.specs.Problem.{Problem}
use Rattle.level_table.specs.Levels.{Levels}
use Rattle.level_table.specs.Operator.{IsFirstLargest, IsRowLevel, value, value_unit}
use Rattle.level_table.specs.Reasons.{AreReasonsOver}
use Rattle.lp_core.specs.declared.Point.{Point}
use Rattle.set_operator.specs.Boxes.{point_of}
use Rattle.set_operator.specs.declared.row.RowAnswer.{RowAnswer}
use Rattle.set_operator.specs.declared.row.RowAnswer.TheVariants.{Level as LevelAnswer, EmptyState}

-- a point of numbers that fit 128 bits, over a positive denominator
pub record IsSmallPoint (point : Point) : Type 0 where
  pub num_small : All (λ x. unsigned_abs x ≤ 2 ^ 88) point.num
  pub den_small : point.den ≤ℤ pos (2 ^ 20)

-- the row level, the first profile of the largest value, an admissible point that has it, and the value in lowest terms
pub record IsLevelAnswer (p : Problem) (t : Levels) (s k : ℕ) (level : ℤ) (profile : ℕ) (point : Point) (reached : Ratio) : Type 0 where
  pub row_level : IsRowLevel p t s k (levels.At level)
  pub level_small : unsigned_abs level ≤ 2 ^ 62
  pub first : IsFirstLargest p t s k profile (point_of point)
  pub reached_lowest : IsLowest reached
  pub reached_is : Equals reached (value p s profile k (point_of point)) (value_unit p (point_of point))
  pub small : IsSmallPoint point

-- EmptyState says that no profile has an admissible vector.
abbrev pub IsRowAnswer : Problem → Levels → ℕ → ℕ → RowAnswer → Type 0
IsRowAnswer p t s k (LevelAnswer level profile point reached) = IsLevelAnswer p t s k level profile point reached
IsRowAnswer p t s k EmptyState = IsRowLevel p t s k levels.Empty

-- the reasons beside an answer: none, or one for each profile where the state admits nothing
abbrev pub AreAnswersReasons : Problem → Levels → ℕ → RowAnswer → List Reason → Type 0
AreAnswersReasons p t s (LevelAnswer level profile point reached) list = list ≡ []
AreAnswersReasons p t s EmptyState list = AreReasonsOver p t s list
