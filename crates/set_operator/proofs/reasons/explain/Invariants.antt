use Rattle.std.proofs.Common.{◌≡◌, ◌+◌, ℕ, ◌<◌, length}
use Rattle.level_table.specs.Levels.{levels_in}
use Rattle.level_table.specs.Reasons.{IsReasonOver, reason_at}
use Rattle.set_operator.proofs.reasons.explain.Given as goal

abbrev pub invariant-loop-profile : goal.invariant-loop-profile
invariant-loop-profile l = record {
  count : length l.reasons.list ≡ l.profile;
  room : length l.reasons.list + l.reasons.spare ≡ length l.fn.reasons.list + l.fn.reasons.spare;
  each : (a : ℕ) → a < length l.reasons.list → IsReasonOver l.fn.p (levels_in l.fn.levels) l.fn.state a (reason_at l.reasons.list a);
}
