-- Deviations that reach a state with an Empty level.
use Rattle.std.specs.Prelude.{◌≡◌, ℕ}
use Rattle.game_model.specs.Game.{reached, IsDeviation}
use Rattle.level_table.specs.Problem.{Problem}
use Rattle.level_table.specs.Levels.{Levels}
use Rattle.level_table.specs.Reasons.{IsKnown}
use Rattle.set_operator.specs.Asked.{AllReachKnown, ReachKnown}
use Rattle.set_operator.specs.declared.reasons.Dead.{Dead}

-- the first deviation of player i that reaches such a state
pub record IsFirstOf (p : Problem) (t : Levels) (s a i : ℕ) (dead : Dead) : Type 0 where
  pub player : dead.player ≡ i
  pub deviation : IsDeviation p.game s a i dead.strategy
  pub state : dead.state ≡ reached p.game s a i dead.strategy
  pub unknown : IsKnown p t dead.state → ⊥
  pub before : ReachKnown p t s a i dead.strategy

-- the first such deviation, by player and then by strategy
pub record IsFirstDead (p : Problem) (t : Levels) (s a : ℕ) (dead : Dead) : Type 0 where
  pub first : IsFirstOf p t s a dead.player dead
  pub players_before : AllReachKnown p t s a dead.player
