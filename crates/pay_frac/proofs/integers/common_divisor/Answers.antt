use Rattle.std.proofs.Common.{arith}
use Rattle.std.proofs.lemmas.Nat.Gcd.{IsGcd-from_mod, IsGcd-from_zero}
use Rattle.pay_frac.proofs.integers.common_divisor.Goals as goal

pub loop-b-preserved : goal.loop-b-preserved
loop-b-preserved c = (λ g h. c.loop-b.invariant.0 g (IsGcd-from_mod c.loop-b.a c.loop-b.b g h), omega arith)

pub returns-clause-divides : goal.returns-clause-divides
returns-clause-divides c = c.loop-b.invariant.0 c.loop-b.a (IsGcd-from_zero c.loop-b.a c.loop-b.b (omega arith))
