use Rattle.std.proofs.Common.{◌≡◌, ◌+◌, drop}
use Rattle.std.specs.List.{position_or_len}
use Rattle.report_lines.specs.Words.{is_break}
use Rattle.report_lines.proofs.words.word_run.Given as goal

abbrev pub invariant-loop-i : goal.invariant-loop-i
invariant-loop-i l = position_or_len is_break l.bytes ≡ l.i + position_or_len is_break (drop l.i l.bytes)
