use Rattle.std.proofs.Common.{◌≡◌, ◌+◌, ◌==◌, ◌≤◌, length}
use Rattle.std.specs.List.{position_or_len}
use Rattle.report_lines.specs.Forms.{place_from, lines_of}
use Rattle.report_lines.proofs.forms.fault_place.Given as goal

abbrev pub invariant-loop-end : goal.invariant-loop-end
invariant-loop-end l = record {
  place : place_from l.start (lines_of l.rest) ≡ place_from 0 (lines_of l.fn.bytes);
  end : l.end ≡ position_or_len (λ b. b == 10) l.rest;
  within : l.end ≤ length l.rest;
  room : l.start + length l.rest ≤ length l.fn.bytes;
}

abbrev pub decreases-loop-end : goal.decreases-loop-end
decreases-loop-end l = length l.rest
