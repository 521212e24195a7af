use Rattle.std.proofs.Common.{sym, ◌∙◌}
use Rattle.selfgen_check.proofs.Profiles.{plays}
use Rattle.selfgen_check.proofs.claim.Claim.punishment.Goals as goal

pub place_of-place-requires-clause-other : goal.place_of-place-requires-clause-other
place_of-place-requires-clause-other c = rw c.profile.ensures.profile (λ e. c.requires.deviation.other (e ∙ sym (plays c.args.self.now.game.now c.args.self.now.state c.args.self.now.entry.now c.args.i c.requires.claim.strategies)))
