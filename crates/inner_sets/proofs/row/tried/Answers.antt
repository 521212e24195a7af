use Rattle.std.proofs.Common.{arith}
use Rattle.game_model.proofs.Lists.{few_profiles}
use Rattle.inner_sets.proofs.row.tried.Goals as goal

pub overflow_add-result : goal.overflow_add-result
overflow_add-result c = omega (arith, c.requires.trial.profile, few_profiles c.args.trial.now.game.now c.requires.trial.game c.args.trial.now.state c.requires.trial.state)
