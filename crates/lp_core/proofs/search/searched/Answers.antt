use Rattle.std.proofs.Common.{◌≡◌, length, sym, subst, rules}
use Rattle.lp_core.specs.Lines.{all_seen}
use Rattle.lp_core.specs.Planar.{whole_of}
use Rattle.lp_core.specs.Reduced.{Reduced}
use Rattle.lp_core.specs.Search.{IsOutcome, IsReduced}
use Rattle.lp_core.proofs.Halves.{whole_is}
use Rattle.lp_core.proofs.Wholes.{whole_is_reduced}
use Rattle.lp_core.proofs.search.searched.Goals as goal

pub solved-requires : goal.solved-requires
solved-requires c =
    let p = c.args.rows.now in
    let three : length c.args.objective ≡ 3 = search rules in
    let reduced : IsReduced (whole_of p) c.args.objective = whole_is_reduced p (whole_of p) c.args.objective c.whole.ensures.program (whole_is p) three c.requires.objective c.requires.zeros in
    subst (λ o. IsReduced c.whole.result o) (sym c.widened.ensures) (subst (λ (q : Reduced). IsReduced q c.args.objective) (sym c.whole.ensures.value) reduced)

pub returns : goal.returns
returns c =
    subst (λ (q : Reduced). IsOutcome all_seen q c.args.objective c.solved.result) c.whole.ensures.value
    (subst (λ o. IsOutcome all_seen c.whole.result o c.solved.result) c.widened.ensures c.solved.ensures)
