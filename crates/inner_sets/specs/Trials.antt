-- A point of a state that is tried at a profile.
use Rattle.std.specs.Prelude.{◌≡◌, ◌<◌, ◌≤◌, length}
use Rattle.game_model.specs.Game.{IsGame, states, counts, profile_count}
use Rattle.inner_sets.specs.declared.trial.Trial.{Trial}

pub record IsTrial (k : Trial) : Type 0 where
  pub game : IsGame k.game.now
  pub two_players : k.game.now.players ≡ 2
  pub n_small : k.n ≤ 16
  pub one_each : length k.summaries.now ≡ states k.game.now
  pub state : k.state < states k.game.now
  pub profile : k.profile < profile_count (counts k.game.now k.state)
