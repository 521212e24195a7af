use Rattle.std.proofs.Common.{refl}
use Rattle.game_model.proofs.Profiles.{strategies_of-profile_number, profile_number-strategies_of, IsProfile-strategies_of}
use Rattle.game_model.proofs.worked.profiles_are_numbered.Goals as goal

pub returns-clause-of_strategies : goal.returns-clause-of_strategies
returns-clause-of_strategies c = strategies_of-profile_number

pub returns-clause-of_number : goal.returns-clause-of_number
returns-clause-of_number c = profile_number-strategies_of

pub returns-clause-profile : goal.returns-clause-profile
returns-clause-profile c = IsProfile-strategies_of

pub returns-clause-worked : goal.returns-clause-worked
returns-clause-worked c = refl
