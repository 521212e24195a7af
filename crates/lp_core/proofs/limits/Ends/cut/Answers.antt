use Rattle.std.proofs.Common.{refl, arith, inl, inr, rules, lit<}
use Rattle.std.specs.Prelude.{pos, ◌-ℤ◌}
use Rattle.lp_core.proofs.Fits.{fits}
use Rattle.std.specs.Int.{w128}
use Rattle.std.specs.Int.RustNames.{FitsSigned}
use Rattle.std.proofs.lemmas.Int.{ints, to_z-of_z}
use Rattle.lp_core.proofs.limits.Ends.cut.Goals as goal

pub returns-then-entry-gt0 : goal.returns-then-entry-gt0
returns-then-entry-gt0 c =
    let f1 : FitsSigned w128 c.args.entry = search rules in
    let f2 : FitsSigned w128 c.args.side = search rules in
    inl (record { sign = omega (arith, ints); lower = refl; upper = simp to_z-of_z at c.tighter.ensures })

pub returns-then-entry-lt0 : goal.returns-then-entry-lt0
returns-then-entry-lt0 c =
    let f1 : FitsSigned w128 c.args.entry = search rules in
    let f2 : FitsSigned w128 c.args.side = search rules in
    let small = c.requires.entry in
    let f3 : FitsSigned w128 (pos 0 -ℤ c.args.entry) = fits _ 18 (omega (arith, ints, small)) (lit< tt) in
    inr (inl (record { sign = omega (arith, ints); upper = refl; lower = simp to_z-of_z at c.tighter-then-entry-lt0.ensures }))
