use Rattle.std.proofs.Common.{◌^◌, lit<}
use Rattle.std.specs.Prelude.{◌*ℤ◌}
use Rattle.std.specs.Int.{w32, w128}
use Rattle.std.specs.Int.RustNames.{FitsSigned}
use Rattle.std.proofs.lemmas.Int.{to_z-of_z, fits_signed_from_abs}
use Rattle.lp_cert.specs.Program.{entry}
use Rattle.lp_cert.proofs.Steps.{fits_entry}
use Rattle.lp_core.proofs.Fits.{fits, at_place, sign_times, sign_fits}
use Rattle.std.proofs.Common.{◌≤◌, arith}
use Rattle.lp_core.proofs.plane.times_on.Goals as goal

pub returns-clause-value : goal.returns-clause-value
returns-clause-value c =
    let p = c.args.pivot.now in
    let e = at_place 1 p.place c.args.row.c p.inside c.requires.entries in
    let m = sign_times p (entry c.args.row.c p.place) 1 e in
    let f1 : FitsSigned w128 c.args.pivot.now.sign = sign_fits p in
    let f2 : FitsSigned w32 (entry c.args.row.c c.args.pivot.now.place) = fits_entry _ (omega (arith, e)) in
    let f3 : FitsSigned w128 (entry c.args.row.c c.args.pivot.now.place) = fits _ _ e (lit< tt) in
    let f4 : FitsSigned w128 (c.args.pivot.now.sign *ℤ entry c.args.row.c c.args.pivot.now.place) = fits _ _ m (lit< tt) in
    simp to_z-of_z

pub returns-clause-small : goal.returns-clause-small
returns-clause-small c =
    let p = c.args.pivot.now in
    let e = at_place 1 p.place c.args.row.c p.inside c.requires.entries in
    let m = sign_times p (entry c.args.row.c p.place) 1 e in
    let f1 : FitsSigned w128 c.args.pivot.now.sign = sign_fits p in
    let f2 : FitsSigned w32 (entry c.args.row.c c.args.pivot.now.place) = fits_entry _ (omega (arith, e)) in
    let f3 : FitsSigned w128 (entry c.args.row.c c.args.pivot.now.place) = fits _ _ e (lit< tt) in
    let f4 : FitsSigned w128 (c.args.pivot.now.sign *ℤ entry c.args.row.c c.args.pivot.now.place) = fits _ _ m (lit< tt) in
    simp to_z-of_z m
