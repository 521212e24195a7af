use Rattle.std.proofs.Common.{arith}
use Rattle.std.proofs.lemmas.Grind.{common_steps}
use Rattle.selfgen_check.proofs.Profiles.{plays}
use Rattle.selfgen_check.proofs.claim.Claim.strategy.Goals as goal

pub returns : goal.returns
returns c = grind (arith, common_steps, plays c.args.self.now.game.now c.args.self.now.state c.args.self.now.entry.now c.args.i c.requires.claim.strategies)
