use Rattle.std.proofs.Common.{◌≡◌, ◌-◌}
use Rattle.nfg_text.specs.Wanted.{behind, times_at, number_at}
use Rattle.nfg_text.proofs.gambit.numbers.Given as goal

abbrev pub invariant-loop : goal.invariant-loop
invariant-loop l = times_at number_at l.count l.initial.tokens ≡ behind l.numbers (times_at number_at (l.count - l.counter) l.tokens)
