use Rattle.std.proofs.Common.{◌≡◌, ◌*◌, ◌∷◌, [], map}
use Rattle.case_maker.specs.Generated.{listed, number_after, payoffs_drawn, successors_drawn}
use Rattle.case_maker.proofs.game.generated.Given as goal

abbrev pub invariant-loop : goal.invariant-loop
invariant-loop l = record {
  last : l.draws.last ≡ number_after l.fn.seed (48 * l.counter);
  strategies : map (λ v. v.items) l.strategies.items ≡ listed (λ s. 4 ∷ 4 ∷ []) l.counter;
  payoffs : map (λ v. v.items) l.payoffs.items ≡ listed (payoffs_drawn l.fn.seed) l.counter;
  next : map (λ v. v.items) l.next.items ≡ listed (successors_drawn l.fn.seed l.fn.count) l.counter;
}
