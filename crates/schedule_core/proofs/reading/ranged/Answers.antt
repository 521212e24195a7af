use Rattle.std.proofs.Common.{arith}
use Rattle.nfg_text.specs.declared.what.What.TheVariants.{Whole}
use Rattle.schedule_core.proofs.Schedules.{limited_keeps}
use Rattle.schedule_core.proofs.reading.ranged.Goals as goal

pub returns-clause-from : goal.returns-clause-from
returns-clause-from c =
    let w = c.in-Some.ensures in
    let same = limited_keeps Whole 4294967295 c.next_token-token.result.at w.0 c.in-Some.number.1 c.in_ok-value.value (c.in_ok-value.ensures.value w.0 w.3) in
    let value = w.2 in
    omega (arith, same, value, c.if-number-from.false, c.from.ensures)

pub returns-clause-below : goal.returns-clause-below
returns-clause-below c =
    let w = c.in-Some.ensures in
    let same = limited_keeps Whole 4294967295 c.next_token-token.result.at w.0 c.in-Some.number.1 c.in_ok-value.value (c.in_ok-value.ensures.value w.0 w.3) in
    let value = w.2 in
    omega (arith, same, value, c.if-number-from-2.false, c.ranges.bound.fits)
