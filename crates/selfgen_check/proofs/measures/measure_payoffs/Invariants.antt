use Rattle.std.proofs.Common.{◌≡◌, drop}
use Rattle.selfgen_check.specs.Measures.{with_payoffs}
use Rattle.selfgen_check.specs.TextFaults.{folded}
use Rattle.selfgen_check.proofs.measures.measure_payoffs.Given as goal

abbrev pub invariant-loop-s : goal.invariant-loop-s
invariant-loop-s l = folded with_payoffs l.scale l.game.payoffs ≡ folded with_payoffs l.scale (drop l.s l.game.payoffs)
