use Rattle.std.proofs.Common.{◌≤◌, All}
use Rattle.std.specs.Int.RustNames.{unsigned_abs}
use Rattle.operator_search.proofs.tests.payoffs.Given as goal

abbrev pub invariant-loop : goal.invariant-loop
invariant-loop l = All (λ u. unsigned_abs u ≤ 5) l.payoffs.items
