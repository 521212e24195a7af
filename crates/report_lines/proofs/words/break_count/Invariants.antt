use Rattle.std.proofs.Common.{◌≡◌, ◌≤◌, take}
use Rattle.std.specs.Prelude.{count_by}
use Rattle.report_lines.specs.Words.{is_break}
use Rattle.report_lines.proofs.words.break_count.Given as goal

abbrev pub invariant-loop-byte : goal.invariant-loop-byte
invariant-loop-byte l = record { count : l.count ≡ count_by is_break (take l.byte-index l.bytes); few : l.count ≤ l.byte-index }
