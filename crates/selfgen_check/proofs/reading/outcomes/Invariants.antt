use Rattle.std.proofs.Common.{◌≡◌, ◌-◌, ◌≤◌, length}
use Rattle.nfg_text.specs.Wanted.{behind, many_at}
use Rattle.selfgen_check.specs.Grammar.{pair_or_close_at, pairs_past}
use Rattle.selfgen_check.proofs.reading.outcomes.Given as goal

abbrev pub invariant-loop : goal.invariant-loop
invariant-loop l = record {
  same : many_at pair_or_close_at pairs_past 4 l.initial.tokens ≡ behind l.lottery (many_at pair_or_close_at pairs_past (4 - l.counter) l.tokens);
  few : length l.lottery ≤ l.counter;
}
