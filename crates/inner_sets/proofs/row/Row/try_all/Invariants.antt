use Rattle.std.proofs.Common.{◌≡◌, ℕ, ◌<◌, ◌≤◌, length}
use Rattle.inner_sets.specs.Rows.{IsTried, item_at}
use Rattle.inner_sets.proofs.row.Row.try_all.Given as goal

abbrev pub invariant-loop-k : goal.invariant-loop-k
invariant-loop-k l = record {
  same : length l.self ≡ length l.initial.self;
  done : (j : ℕ) → j < l.k → IsTried l.trial.game.now l.trial.n l.trial.summaries.now l.trial.state l.trial.profile (item_at l.initial.self j) (item_at l.self j);
  rest : (j : ℕ) → l.k ≤ j → item_at l.self j ≡ item_at l.initial.self j;
}
