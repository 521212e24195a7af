use Rattle.std.proofs.Common.{arith}
use Rattle.std.proofs.Math.Nat.{mul-mod_left}
use Rattle.game_model.proofs.Multiples.{first_divides}
use Rattle.game_model.proofs.game.first_multiple.Goals as goal

pub returns-then-base-k-eq0-clause-least : goal.returns-then-base-k-eq0-clause-least
returns-then-base-k-eq0-clause-least c = λ d of_base of_p. first_divides c.args.base c.args.p c.loop-k.k d (omega arith) (rw c.from.ensures at c.if-base-k-eq0.true) c.loop-k.invariant of_base of_p

pub returns-clause-least : goal.returns-clause-least
returns-clause-least c = λ d of_base of_p. first_divides c.args.base c.args.p c.from-2.result d (omega arith) (rw c.from-2.ensures (mul-mod_left c.args.base c.args.p)) (λ j positive below. c.loop-k.invariant j positive (omega arith)) of_base of_p
