use Rattle.std.proofs.Common.{◌≡◌, ◌*◌, ◌/◌, ◌%◌, pos}
use Rattle.case_maker.specs.Generated.{listed, next_drawn, number_after, payoff_drawn}
use Rattle.case_maker.proofs.game.stage_drawn.Given as goal

abbrev pub invariant-loop : goal.invariant-loop
invariant-loop l = record {
  last : l.draws.last ≡ number_after l.fn.draws.last (3 * l.counter);
  payoffs : l.payoffs.items ≡ listed (λ k. pos (payoff_drawn l.fn.draws.last 0 (k / 2) (k % 2))) (2 * l.counter);
  next : l.next.items ≡ listed (next_drawn l.fn.draws.last l.fn.count 0) l.counter;
}
