use Rattle.std.proofs.Common.{ℕ, List, get_or, subst}
use Rattle.game_model.specs.Game.{counts}
use Rattle.inner_sets.specs.Built.{AddsPunishments}
use Rattle.inner_sets.proofs.Punishing.{both_punished}
use Rattle.inner_sets.proofs.entries.punishments.Goals as goal

pub returns : goal.returns
returns c = both_punished c.args.trial.now.game.now c.args.trial.now.summaries.now c.args.trial.now.state c.args.trial.now.profile c.push_punishments.new.punish c.push_punishments-2.new.punish c.requires.game c.requires.two_players c.requires.state c.requires.profile
    (subst (λ (xs : List ℕ). AddsPunishments c.args.trial.now.game.now c.args.trial.now.summaries.now c.args.trial.now.state c.args.trial.now.profile 0 (get_or (counts c.args.trial.now.game.now c.args.trial.now.state) 0 0) xs c.push_punishments.new.punish) c.new-punish.ensures c.in_ok-push_punishments.ensures)
    c.in_ok-push_punishments-2.ensures
