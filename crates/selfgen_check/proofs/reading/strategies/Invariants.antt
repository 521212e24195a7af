use Rattle.std.proofs.Common.{◌≡◌, ◌-◌}
use Rattle.nfg_text.specs.Wanted.{behind, times_at}
use Rattle.selfgen_check.specs.Grammar.{whole_at}
use Rattle.selfgen_check.proofs.reading.strategies.Given as goal

abbrev pub invariant-loop : goal.invariant-loop
invariant-loop l = times_at whole_at l.count l.initial.tokens ≡ behind l.strategies (times_at whole_at (l.count - l.counter) l.tokens)
