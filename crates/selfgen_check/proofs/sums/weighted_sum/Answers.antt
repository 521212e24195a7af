use Rattle.std.proofs.Common.{◌<◌, ◌∙◌, length, ap, sym, arith, get_or, to_z}
use Rattle.std.specs.Prelude.{ℤ, ◌+ℤ◌}
use mir.Syntax.{w128}
use Rattle.selfgen_check.proofs.Products.{one_more}
use Rattle.selfgen_check.proofs.Weights.{sum_step, outcome_part}
use Rattle.selfgen_check.proofs.sums.weighted_sum.Goals as goal

pub loop-k-preserved : goal.loop-k-preserved
loop-k-preserved c = let within : c.loop-k.k < length c.args.lottery.now = omega (arith, c.len-k-end.ensures.count) in
    let o = one_more (to_z w128 c.loop-k.sum-bits) c.outcome_share-sum.result (outcome_part c.args.entries.now c.args.i (get_or c.args.lottery.now c.loop-k.k (0, 0))) c.loop-k.k
    (omega (arith, c.len-k-end.ensures.few)) c.loop-k.invariant.small c.outcome_share-sum.ensures.share c.outcome_share-sum.ensures.small in
    record {
      sum = o.0 ∙ (ap (λ (x : ℤ). x +ℤ outcome_part c.args.entries.now c.args.i (get_or c.args.lottery.now c.loop-k.k (0, 0))) c.loop-k.invariant.sum ∙ sym (sum_step c.args.entries.now c.args.i c.args.lottery.now c.loop-k.k within));
      small = o.1;
    }
