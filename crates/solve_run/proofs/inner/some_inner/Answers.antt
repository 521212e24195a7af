use Rattle.solve_run.proofs.InnerLemmas.{inner_told}
use Rattle.solve_run.proofs.inner.some_inner.Goals as goal

pub returns : goal.returns
returns g c = (
  c.requires.n_positive,
  inner_told c.args.game.now c.in_ok-set.set.game c.args.n c.in_ok-set.set.corr c.into_corr.result c.in_ok-numbers.numbers c.in_ok-set.ensures.game c.into_corr.ensures.corr
      c.in_ok-set.ensures.inner c.into_corr.ensures.checked.self_generating c.no_plan_gains.ensures c.in_ok-numbers.ensures,
)
