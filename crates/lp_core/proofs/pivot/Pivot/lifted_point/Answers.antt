use Rattle.std.proofs.Common.{◌≡◌, lit<}
use Rattle.std.specs.Int.{w128}
use Rattle.std.specs.Int.RustNames.{FitsSigned}
use Rattle.std.proofs.lemmas.Int.{to_z-of_z}
use Rattle.lp_cert.specs.Program.{entry}
use Rattle.lp_core.specs.Elimination.{way}
use Rattle.lp_core.proofs.Steps.{lifted_vector}
use Rattle.lp_core.proofs.Fits.{fits}
use Rattle.lp_core.proofs.pivot.Pivot.lifted_point.Goals as goal

pub lifted_part-requires-clause-way : goal.lifted_part-requires-clause-way
lifted_part-requires-clause-way c =
    let p = c.args.self.now in
    let f1 : FitsSigned w128 c.way-way.result = fits _ _ c.way-way.ensures.small (lit< tt) in
    let f2 : FitsSigned w128 (entry c.args.num 0) = fits _ _ c.requires.num.first (lit< tt) in
    let f3 : FitsSigned w128 (entry c.args.num 1) = fits _ _ c.requires.num.second (lit< tt) in
    let f4 : FitsSigned w128 (entry c.args.num 2) = fits _ _ c.requires.num.third (lit< tt) in
    simp to_z-of_z c.way-way.ensures.small

pub lifted_part-requires-2-clause-way : goal.lifted_part-requires-2-clause-way
lifted_part-requires-2-clause-way c =
    let p = c.args.self.now in
    let f1 : FitsSigned w128 c.way-way.result = fits _ _ c.way-way.ensures.small (lit< tt) in
    let f2 : FitsSigned w128 (entry c.args.num 0) = fits _ _ c.requires.num.first (lit< tt) in
    let f3 : FitsSigned w128 (entry c.args.num 1) = fits _ _ c.requires.num.second (lit< tt) in
    let f4 : FitsSigned w128 (entry c.args.num 2) = fits _ _ c.requires.num.third (lit< tt) in
    simp to_z-of_z c.way-way.ensures.small

pub lifted_part-requires-3-clause-way : goal.lifted_part-requires-3-clause-way
lifted_part-requires-3-clause-way c =
    let p = c.args.self.now in
    let f1 : FitsSigned w128 c.way-way.result = fits _ _ c.way-way.ensures.small (lit< tt) in
    let f2 : FitsSigned w128 (entry c.args.num 0) = fits _ _ c.requires.num.first (lit< tt) in
    let f3 : FitsSigned w128 (entry c.args.num 1) = fits _ _ c.requires.num.second (lit< tt) in
    let f4 : FitsSigned w128 (entry c.args.num 2) = fits _ _ c.requires.num.third (lit< tt) in
    simp to_z-of_z c.way-way.ensures.small

pub returns : goal.returns
returns c =
    let p = c.args.self.now in
    let f1 : FitsSigned w128 c.way-way.result = fits _ _ c.way-way.ensures.small (lit< tt) in
    let f2 : FitsSigned w128 (entry c.args.num 0) = fits _ _ c.requires.num.first (lit< tt) in
    let f3 : FitsSigned w128 (entry c.args.num 1) = fits _ _ c.requires.num.second (lit< tt) in
    let f4 : FitsSigned w128 (entry c.args.num 2) = fits _ _ c.requires.num.third (lit< tt) in
    let f5 : FitsSigned w128 c.lifted_part.result = record { sfits = c.lifted_part.type_inv } in
    let f6 : FitsSigned w128 c.lifted_part-2.result = record { sfits = c.lifted_part-2.type_inv } in
    let f7 : FitsSigned w128 c.lifted_part-3.result = record { sfits = c.lifted_part-3.type_inv } in
    let f8 : FitsSigned w128 c.args.den = fits _ _ c.requires.den (lit< tt) in
    let is : c.way-way.result ≡ way c.args.self.now c.args.num c.args.den = simp to_z-of_z at c.way-way.ensures.value in
    let a1 = simp to_z-of_z at c.lifted_part.ensures.moved in
    let a2 = simp to_z-of_z at c.lifted_part.ensures.others in
    let b1 = simp to_z-of_z at c.lifted_part-2.ensures.moved in
    let b2 = simp to_z-of_z at c.lifted_part-2.ensures.others in
    let d1 = simp to_z-of_z at c.lifted_part-3.ensures.moved in
    let d2 = simp to_z-of_z at c.lifted_part-3.ensures.others in
    simp to_z-of_z (lifted_vector p c.args.num c.args.den c.way-way.result c.lifted_part.result c.lifted_part-2.result c.lifted_part-3.result is a1 a2 b1 b2 d1 d2)
