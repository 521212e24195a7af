use Rattle.inner_sets.proofs.Steps.{one_profile_more}
use Rattle.inner_sets.proofs.row.Row.advance.Goals as goal

pub loop-profile-preserved : goal.loop-profile-preserved
loop-profile-preserved c = one_profile_more c.args.game.now c.args.n c.args.summaries.now c.args.s c.loop-profile.profile c.args.self.now c.loop-profile.self c.try_all.new.self c.loop-profile.invariant c.try_all.ensures
