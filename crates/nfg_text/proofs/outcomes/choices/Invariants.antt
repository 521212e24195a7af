use Rattle.std.proofs.Common.{◌≡◌, ◌-◌, List}
use Rattle.nfg_text.specs.declared.outcomes.Outcome.{Outcome}
use Rattle.nfg_text.specs.Wanted.{behind, times_at}
use Rattle.nfg_text.specs.Grammar.{choice_at, payoffs_of}
use Rattle.nfg_text.proofs.outcomes.choices.Given as goal

abbrev pub invariant-loop : goal.invariant-loop
invariant-loop l = (chosen : List Outcome) × (l.payoffs ≡ payoffs_of chosen) × (times_at (choice_at l.outcomes) l.profiles l.initial.tokens ≡ behind chosen (times_at (choice_at l.outcomes) (l.profiles - l.counter) l.tokens))
