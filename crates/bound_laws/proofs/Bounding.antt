-- What is at least each supported table bounds, and what keeps levels so.
use Rattle.std.proofs.Common.{ℕ}
use Rattle.game_model.specs.SelfGeneration.{Correspondence, IsSelfGenerating}
use Rattle.level_table.specs.declared.level.Level.{Level}
use Rattle.level_table.specs.Problem.{Problem, IsProblem}
use Rattle.level_table.specs.Levels.{Levels, Bounds, IsRow, lesser}
use Rattle.level_table.specs.Operator.{IsRowLevel}
use Rattle.level_table.specs.Start.{IsAboveSupported}
use Rattle.bound_laws.specs.Laws.{HasBounds, KeepsSupported}
use Rattle.bound_laws.proofs.Correspondence.{table_exists, table_is_supported, table_is_below, bounds_from_tables, HasTableUnder}
use Rattle.bound_laws.proofs.Levels.{at_most_lesser}
use Rattle.bound_laws.proofs.Operator.{supported_at_most_row_level}

pub above_supported_bounds : (p : Problem) (start : Levels) (s k : ℕ) (l : Level) → IsProblem p → HasBounds p start → IsRow p s k → IsAboveSupported p start s k l → Bounds p s k l
above_supported_bounds p start s k l ok bounds row above = bounds_from_tables p s k l ok under
  where
    under : (c : Correspondence) → IsSelfGenerating p.game c → HasTableUnder p c s k l
    under c self =
        let t = table_exists p c ok self in
        (t.0 s k, t.1 s k row, above t.0 (table_is_below p c t.0 start ok self t.1 bounds) (table_is_supported p c t.0 ok self t.1))

pub kept_bounds : (p : Problem) (start t : Levels) → IsProblem p → HasBounds p start → KeepsSupported p start t → HasBounds p t
kept_bounds p start t ok bounds kept s k row = above_supported_bounds p start s k (t s k) ok bounds row (kept s k row)

pub start_is_kept : (p : Problem) (start : Levels) → KeepsSupported p start start
start_is_kept p start s k row u below supported = below s k row

pub row_level_is_kept : (p : Problem) (start seen : Levels) (s k : ℕ) (l : Level) → IsProblem p → KeepsSupported p start seen → IsRow p s k → IsRowLevel p seen s k l → IsAboveSupported p start s k l
row_level_is_kept p start seen s k l ok kept row level u below supported =
    supported_at_most_row_level p seen u s k l ok row (λ r j there. kept r j there u below supported) supported level

pub lesser_is_kept : (p : Problem) (start : Levels) (s k : ℕ) (l m : Level) → IsAboveSupported p start s k l → IsAboveSupported p start s k m → IsAboveSupported p start s k (lesser l m)
lesser_is_kept p start s k l m h n u below supported = at_most_lesser (u s k) l m (h u below supported) (n u below supported)
