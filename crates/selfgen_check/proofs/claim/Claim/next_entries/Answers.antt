use Rattle.std.proofs.Common.{arith}
use Rattle.selfgen_check.proofs.Profiles.{number_known}
use Rattle.selfgen_check.proofs.claim.Claim.next_entries.Goals as goal

pub next-requires-clause-profile : goal.next-requires-clause-profile
next-requires-clause-profile c = let k = number_known c.args.self.now.game.now c.args.self.now.state c.args.self.now.entry.now c.requires.strategies in omega (arith, k, c.requires.number)
