use Rattle.std.proofs.Common.{◌≡◌, [], drop}
use Rattle.std.specs.Prelude.{slice_index_or}
use Rattle.selfgen_check.specs.Measures.{with_payoff, with_payoffs}
use Rattle.selfgen_check.specs.TextFaults.{folded}
use Rattle.selfgen_check.proofs.measures.payoffs_in.Given as goal

abbrev pub invariant-loop-k : goal.invariant-loop-k
invariant-loop-k l = with_payoffs l.scale (slice_index_or l.game.payoffs l.s []) ≡ folded with_payoff l.scale (drop l.k (slice_index_or l.game.payoffs l.s []))
