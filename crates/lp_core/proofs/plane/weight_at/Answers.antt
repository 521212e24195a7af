use Rattle.std.proofs.Common.{◌^◌, ◌<◌, arith, lit<}
use Rattle.std.specs.Int.{w32, w128}
use Rattle.std.specs.Int.RustNames.{FitsSigned}
use Rattle.std.proofs.lemmas.Int.{to_z-of_z, fits_signed_from_abs}
use Rattle.lp_cert.specs.Program.{entry}
use Rattle.lp_core.proofs.Fits.{fits, at_place}
use Rattle.lp_core.proofs.plane.weight_at.Goals as goal

pub overflow_cast-result : goal.overflow_cast-result
overflow_cast-result c =
    let e = at_place 8192 c.args.k c.args.rest c.requires.inside c.requires.small in
    let f1 : FitsSigned w32 (entry c.args.rest c.args.k) = fits_signed_from_abs w32 _ (let l : 8192 < 2 ^ 31 = lit< tt in omega (arith, e, l)) in
    let f2 : FitsSigned w128 (entry c.args.rest c.args.k) = fits _ _ e (lit< tt) in
    simp to_z-of_z f1

pub returns-clause-value : goal.returns-clause-value
returns-clause-value c =
    let e = at_place 8192 c.args.k c.args.rest c.requires.inside c.requires.small in
    let f1 : FitsSigned w32 (entry c.args.rest c.args.k) = fits_signed_from_abs w32 _ (let l : 8192 < 2 ^ 31 = lit< tt in omega (arith, e, l)) in
    let f2 : FitsSigned w128 (entry c.args.rest c.args.k) = fits _ _ e (lit< tt) in
    simp to_z-of_z

pub returns-clause-small : goal.returns-clause-small
returns-clause-small c =
    let e = at_place 8192 c.args.k c.args.rest c.requires.inside c.requires.small in
    let f1 : FitsSigned w32 (entry c.args.rest c.args.k) = fits_signed_from_abs w32 _ (let l : 8192 < 2 ^ 31 = lit< tt in omega (arith, e, l)) in
    let f2 : FitsSigned w128 (entry c.args.rest c.args.k) = fits _ _ e (lit< tt) in
    simp to_z-of_z e
