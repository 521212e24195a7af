use Rattle.std.proofs.Common.{◌≤◌, get_or, arith, add-one}
use Rattle.std.proofs.Math.Nat.{mul-le-mul, pow-suc}
use Rattle.game_model.proofs.Multiples.{least_none, least_more}
use Rattle.game_model.proofs.game.least_common_multiple.Goals as goal

pub loop-p-init : goal.loop-p-init
loop-p-init c = record { so_far = least_none; small = omega arith }

pub loop-p-preserved : goal.loop-p-preserved
loop-p-preserved c =
    let done = c.first_multiple-base.ensures in
    let small : get_or c.args.numerators.now c.loop-p.p-index 0 ≤ 1024 = omega (arith, c.requires.small c.loop-p.p-index c.loop-p-test.true) in
    record {
      so_far = least_more c.args.numerators.now c.loop-p.p-index c.loop-p.base c.first_multiple-base.result (omega arith) c.loop-p.invariant.so_far done.positive done.of_base done.of_p done.least;
      small = rw (add-one, pow-suc) (omega (arith, done.small, mul-le-mul c.loop-p.invariant.small small));
    }
