use Rattle.inner_sets.specs.Rows.{AreAdvanced}
use Rattle.inner_sets.proofs.row.Row.advance.Given as goal

abbrev pub invariant-loop-profile : goal.invariant-loop-profile
invariant-loop-profile l = AreAdvanced l.game l.n l.summaries l.s l.profile l.initial.self l.self
