use Rattle.std.proofs.lemmas.Int.Digits.{digits_more}
use Rattle.std.proofs.Common.{arith}
use Rattle.pay_frac.proofs.numbers.leading_digits.Goals as goal

pub loop-end-preserved : goal.loop-end-preserved
loop-end-preserved c = (omega arith, digits_more 10 c.args.text.now c.loop-end.end c.loop-end-test.true c.loop-end.invariant.1 c.if-is_ascii_digit.ensures.bound)
