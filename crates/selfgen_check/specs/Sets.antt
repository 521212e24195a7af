-- A game with a correspondence that has passed the check.
use Rattle.game_model.specs.Game.{DynamicGame}
use Rattle.game_model.specs.SelfGeneration.{IsSelfGenerating}
use Rattle.selfgen_check.specs.Limits.{KeepsLimits}
use Rattle.selfgen_check.specs.Promises.{Promises, correspondence_of}

pub record CheckedSet : Type 0 where
  pub game : DynamicGame
  pub corr : Promises

pub record IsChecked (k : CheckedSet) : Type 0 where
  pub limits : KeepsLimits k.game k.corr
  pub self_generating : IsSelfGenerating k.game (correspondence_of k.game k.corr)
