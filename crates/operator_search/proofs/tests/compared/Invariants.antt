use Rattle.std.proofs.Common.{◌+◌, ◌≤◌, length}
use Rattle.game_model.specs.Game.{counts, profile_count}
use Rattle.operator_search.proofs.tests.compared.Given as goal

abbrev pub invariant-loop-dir : goal.invariant-loop-dir
invariant-loop-dir l = profile_count (counts l.game 0) ≤ length l.reasons.list + l.reasons.spare
