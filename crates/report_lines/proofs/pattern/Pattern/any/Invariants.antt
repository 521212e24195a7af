use Rattle.std.proofs.Common.{◌≡◌}
use Rattle.report_lines.specs.Forms.{at_most}
use Rattle.report_lines.proofs.pattern.Pattern.any.Given as goal

abbrev pub invariant-loop : goal.invariant-loop
invariant-loop l = l.last ≡ at_most l.kind l.counter l.fn.self
