use Rattle.std.proofs.Common.{FitsSigned}
use Rattle.std.specs.Int.{w128, int_div_euclid}
use Rattle.std.proofs.lemmas.Int.{to_z-of_z}
use Rattle.exact_algebra.proofs.Quotients.{floor_euclid, floor_fits}
use Rattle.pay_frac.proofs.integers.floor_div.Goals as goal

pub returns : goal.returns
returns c =
    let fits_n : FitsSigned w128 c.args.n = c.ranges.n in
    let fits_d : FitsSigned w128 c.args.d = c.ranges.d in
    let fits : FitsSigned w128 (int_div_euclid c.args.n c.args.d) = floor_fits w128 c.args.n c.args.d fits_n c.requires in
    simp (c.div_euclid.ensures, to_z-of_z) (floor_euclid c.args.n c.args.d c.requires)
