-- What the settling test says of rows and of a table.
use Rattle.std.specs.Prelude.{◌≡◌, ◌⊎◌, ℕ, zero, suc, ◌+◌, ◌/◌, ◌%◌, ◌<◌, ◌≤◌, ◌++◌, List, [], length, Option, Some, None, ℤ, pos, ◌-ℤ◌, ◌*ℤ◌, ◌<ℤ◌}
use Rattle.std.specs.Option.{option_to_list}
use Rattle.pay_frac.specs.Ratio.{Ratio, IsLowest, Equals}
use Rattle.level_table.specs.declared.level.Level.TheVariants.{Empty, At}
use Rattle.level_table.specs.Problem.{Problem, direction_count}
use Rattle.level_table.specs.Levels.{Levels, Table, levels_in, level_at}
use Rattle.level_table.specs.Operator.{Fractions, IsFirstLargest, IsRowLevel, HasValueAbove, value, value_unit}
use Rattle.level_table.specs.Supported.{IsSupported}
use Rattle.set_operator.specs.Answers.{IsSmallPoint}
use Rattle.set_operator.specs.Boxes.{point_of}
use Rattle.set_operator.specs.Prepared.{IsPrepared, PreparedState}
use Rattle.set_operator.specs.declared.row.Support.{Support}
use Rattle.set_operator.specs.declared.row.Verdict.{Verdict}
use Rattle.set_operator.specs.declared.row.Verdict.TheVariants.{Supported, Unsupported}
use Rattle.settle_test.specs.declared.settle.RowVerdict.{RowVerdict}
use Rattle.settle_test.specs.declared.settle.RowVerdict.TheVariants as verdicts

-- The support is the first profile of the largest value, and a small point that has it. The value is above the row's level less the slack.
pub record IsSupportOf (p : Problem) (t : Table) (slack : ℕ) (support : Support) (s k : ℕ) (x : ℤ) : Type 0 where
  pub first : IsFirstLargest p (levels_in t) s k support.profile (point_of support.point)
  pub above : ((x -ℤ pos slack) *ℤ value_unit p (point_of support.point)) <ℤ value p s support.profile k (point_of support.point)
  pub small : IsSmallPoint support.point

-- the state and the direction of a row
abbrev pub state_of : Problem → ℕ → ℕ
state_of p row = row / direction_count p

abbrev pub direction_of : Problem → ℕ → ℕ
direction_of p row = row % direction_count p

-- the largest admissible value of a state in a direction, in lowest terms
pub record IsLargestValue (p : Problem) (t : Levels) (s k : ℕ) (r : Ratio) : Type 0 where
  pub lowest : IsLowest r
  pub profile : ℕ
  pub vector : Fractions
  pub first : IsFirstLargest p t s k profile vector
  pub here : Equals r (value p s profile k vector) (value_unit p vector)

-- what is reached in a row that isn't supported: the largest value, or none where nothing is admissible
abbrev pub IsReached : Problem → Levels → ℕ → ℕ → Option Ratio → Type 0
IsReached p t s k None = IsRowLevel p t s k Empty
IsReached p t s k (Some r) = IsLargestValue p t s k r

-- What the test says of one row: it is Empty, or what supports it, or its level and what is reached.
abbrev pub IsRowVerdict : Problem → Table → ℕ → ℕ → RowVerdict → Type 0
IsRowVerdict p t slack row (verdicts.Fine None) = level_at t row ≡ Empty
IsRowVerdict p t slack row (verdicts.Fine (Some support)) = (x : ℤ) × (level_at t row ≡ At x) × (support.row ≡ row) × IsSupportOf p t slack support (state_of p row) (direction_of p row) x
IsRowVerdict p t slack row (verdicts.Unsupported level reached) =
    (level_at t row ≡ At level)
    × (HasValueAbove p (levels_in t) (state_of p row) (direction_of p row) (level -ℤ pos slack) → ⊥)
    × IsReached p (levels_in t) (state_of p row) (direction_of p row) reached

-- one support for each finite row below n, in row order
abbrev pub AreSupports : Problem → Table → ℕ → ℕ → List Support → Type 0
AreSupports p t slack zero supports = supports ≡ []
AreSupports p t slack (suc n) supports = (before : List Support) × (added : Option Support) × AreSupports p t slack n before × (supports ≡ before ++ option_to_list added) × IsRowVerdict p t slack n (verdicts.Fine added)

-- each finite row below n has an admissible value above its level less the slack
abbrev pub AreSupported : Problem → Table → ℕ → ℕ → Type 0
AreSupported p t slack n = (row : ℕ) (x : ℤ) → row < n → level_at t row ≡ At x → HasValueAbove p (levels_in t) (state_of p row) (direction_of p row) (x -ℤ pos slack)

-- What the settling test says: the table is supported, with one support for each finite row; or else the first row that isn't, with its level and what is reached.
abbrev pub IsVerdict : Problem → Table → ℕ → Verdict → Type 0
IsVerdict p t slack (Supported supports) = IsSupported p (levels_in t) slack × AreSupports p t slack (length t.levels) supports
IsVerdict p t slack (Unsupported row level reached) =
    (row < length t.levels) × (level_at t row ≡ At level) × AreSupported p t slack row
    × (HasValueAbove p (levels_in t) (state_of p row) (direction_of p row) (level -ℤ pos slack) → ⊥)
    × IsReached p (levels_in t) (state_of p row) (direction_of p row) reached

-- the row has a level, and no admissible value is above it less the slack
pub record FailsAt (p : Problem) (t : Table) (slack row : ℕ) : Type 0 where
  pub level : ℤ
  pub here : level_at t row ≡ At level
  pub none : HasValueAbove p (levels_in t) (state_of p row) (direction_of p row) (level -ℤ pos slack) → ⊥

-- none of the rows from one on to below another fails
abbrev pub NoneFails : Problem → Table → ℕ → ℕ → ℕ → Type 0
NoneFails p t slack from end = (row : ℕ) → from ≤ row → row < end → row < length t.levels → FailsAt p t slack row → ⊥

-- the first of so many rows from one on that fails, or none
abbrev pub IsFailingRow : Problem → Table → ℕ → ℕ → ℕ → Option ℕ → Type 0
IsFailingRow p t slack from count None = NoneFails p t slack from (from + count)
IsFailingRow p t slack from count (Some row) = (from ≤ row) × (row < from + count) × (row < length t.levels) × FailsAt p t slack row × NoneFails p t slack from row

-- the row is Empty, or its state is ready
abbrev pub IsReadyAt : Problem → Table → PreparedState → ℕ → Type 0
IsReadyAt p t q row = (level_at t row ≡ Empty) ⊎ (IsPrepared p (levels_in t) q × (q.state ≡ state_of p row))
