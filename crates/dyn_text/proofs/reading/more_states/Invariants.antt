use Rattle.std.proofs.Common.{◌≡◌, ◌-◌, [], ◌∷◌}
use Rattle.nfg_text.specs.Wanted.{behind, many_at}
use Rattle.dyn_text.specs.Grammar.{state_or_close_at, states_past}
use Rattle.dyn_text.proofs.reading.more_states.Given as goal

abbrev pub invariant-loop : goal.invariant-loop
invariant-loop l = behind (l.fn.first ∷ []) (many_at state_or_close_at states_past 63 l.initial.tokens) ≡ behind l.states (many_at state_or_close_at states_past (63 - l.counter) l.tokens)
