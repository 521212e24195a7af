use Rattle.std.proofs.Common.{ℕ, ◌<◌}
use Rattle.game_model.specs.Game.{successor}
use Rattle.inner_sets.specs.Rounds.{HasAll}
use Rattle.inner_sets.proofs.settle.has_lost_next.Given as goal

abbrev pub invariant-loop-a : goal.invariant-loop-a
invariant-loop-a l = (b : ℕ) → b < l.a → HasAll l.rows l.summaries (successor l.game l.s b)
