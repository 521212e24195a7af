use Rattle.std.proofs.Common.{ap, ◌∙◌, [], ◌∷◌}
use Rattle.std.specs.Prelude.{nat_lt}
use Rattle.lp_core.proofs.Views.{whole_live}
use Rattle.lp_core.proofs.view.whole.Goals as goal

pub invariant_of-result : goal.invariant_of-result
invariant_of-result c = record {
  program = c.dimension-dimension.ensures.program;
  live_is = ap (λ d. nat_lt 0 d ∷ nat_lt 1 d ∷ nat_lt 2 d ∷ []) c.dimension-dimension.ensures.value ∙ whole_live c.args.rows.now;
  over = tt;
}
