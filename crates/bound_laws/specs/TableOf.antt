-- The table of levels of a correspondence.
use Rattle.std.specs.Prelude.{◌≡◌, ℕ, ◌<◌, length, ℤ, pos, ◌-ℤ◌, ◌*ℤ◌, ◌≤ℤ◌, ◌<ℤ◌}
use Rattle.game_model.specs.SelfGeneration.{Correspondence, entries_of, entry_at, dot}
use Rattle.level_table.specs.declared.level.Level.{Level}
use Rattle.level_table.specs.declared.level.Level.TheVariants.{Empty, At}
use Rattle.level_table.specs.Problem.{Problem, direction, unit}
use Rattle.level_table.specs.Levels.{Levels, IsRow}

-- E * (direction k * point of entry j): a numerator over `common_denominator`
abbrev pub reach : Problem → Correspondence → ℕ → ℕ → ℕ → ℤ
reach p c s k j = unit p *ℤ dot p.game.players (direction p k) (entry_at c s j).point

abbrev pub common_denominator : Problem → Correspondence → ℤ
common_denominator p c = pos c.scale *ℤ p.game.denominator

-- an entry whose point is beyond x
pub record HasEntryAbove (p : Problem) (c : Correspondence) (s k : ℕ) (x : ℤ) : Type 0 where
  pub entry : ℕ
  pub known : entry < length (entries_of c s)
  pub above : (x *ℤ common_denominator p c) <ℤ reach p c s k entry

-- Empty where the state has no entry; else the least whole number that no point of the state is beyond.
abbrev pub IsLevelOf : Problem → Correspondence → ℕ → ℕ → Level → Type 0
IsLevelOf p c s k Empty = length (entries_of c s) ≡ 0
IsLevelOf p c s k (At x) =
    ((j : ℕ) → j < length (entries_of c s) → reach p c s k j ≤ℤ (x *ℤ common_denominator p c)) × HasEntryAbove p c s k (x -ℤ pos 1)

abbrev pub IsTableFrom : Problem → Correspondence → Levels → Type 0
IsTableFrom p c t = (s k : ℕ) → IsRow p s k → IsLevelOf p c s k (t s k)
