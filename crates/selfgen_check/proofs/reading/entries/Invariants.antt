use Rattle.std.proofs.Common.{◌≡◌, ◌-◌}
use Rattle.nfg_text.specs.Wanted.{behind, many_at}
use Rattle.selfgen_check.specs.Grammar.{entry_or_close_at, entries_past}
use Rattle.selfgen_check.proofs.reading.entries.Given as goal

abbrev pub invariant-loop : goal.invariant-loop
invariant-loop l = many_at (entry_or_close_at l.players) entries_past 65535 l.initial.tokens ≡ behind l.entries (many_at (entry_or_close_at l.players) entries_past (65535 - l.counter) l.tokens)
