use Rattle.std.proofs.Common.{◌≡◌, ◌-◌}
use Rattle.nfg_text.specs.Wanted.{behind, times_at}
use Rattle.selfgen_check.specs.Grammar.{state_at}
use Rattle.selfgen_check.proofs.reading.states.Given as goal

abbrev pub invariant-loop : goal.invariant-loop
invariant-loop l = times_at (state_at l.players) l.count l.initial.tokens ≡ behind l.states (times_at (state_at l.players) (l.count - l.counter) l.tokens)
