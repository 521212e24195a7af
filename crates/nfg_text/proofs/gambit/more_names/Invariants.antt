use Rattle.std.proofs.Common.{◌≡◌, ◌-◌, ◌+◌, ◌≤◌, [], ◌∷◌, length}
use Rattle.nfg_text.specs.Wanted.{behind, many_at}
use Rattle.nfg_text.specs.Grammar.{name_or_close_at, sixteen_past}
use Rattle.nfg_text.proofs.gambit.more_names.Given as goal

abbrev pub invariant-loop : goal.invariant-loop
invariant-loop l = record {
  same : behind (l.fn.first ∷ []) (many_at name_or_close_at sixteen_past 15 l.initial.tokens) ≡ behind l.names (many_at name_or_close_at sixteen_past (15 - l.counter) l.tokens);
  small : length l.names ≤ l.counter + 1;
}
