use Rattle.std.proofs.Common.{arith}
use Rattle.selfgen_check.proofs.Profiles.{number_known}
use Rattle.selfgen_check.proofs.claim.Claim.deviation.Goals as goal

pub deviation-requires-clause-profile : goal.deviation-requires-clause-profile
deviation-requires-clause-profile c = let k = number_known c.args.self.now.game.now c.args.self.now.state c.args.self.now.entry.now c.requires.claim.strategies in omega (arith, k, c.requires.claim.number)
