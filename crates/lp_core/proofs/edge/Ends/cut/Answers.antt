use Rattle.std.proofs.Common.{refl, arith, inl, inr, rules, lit<}
use Rattle.std.specs.Prelude.{pos, ◌-ℤ◌}
use Rattle.lp_core.proofs.Narrow.{narrow}
use Rattle.std.specs.Int.{w64}
use Rattle.std.specs.Int.RustNames.{FitsSigned}
use Rattle.std.proofs.lemmas.Int.{ints, to_z-of_z}
use Rattle.lp_core.proofs.edge.Ends.cut.Goals as goal

pub returns-then-cut-gt0 : goal.returns-then-cut-gt0
returns-then-cut-gt0 c =
    let f1 : FitsSigned w64 c.args.cut.entry = search rules in
    let f2 : FitsSigned w64 c.args.cut.side = search rules in
    inl (record { sign = omega (arith, ints); lower = refl; upper = simp to_z-of_z at c.tighter.ensures })

pub returns-then-cut-lt0 : goal.returns-then-cut-lt0
returns-then-cut-lt0 c =
    let f1 : FitsSigned w64 c.args.cut.entry = search rules in
    let f2 : FitsSigned w64 c.args.cut.side = search rules in
    let small = c.args.cut.small_entry in
    let f3 : FitsSigned w64 (pos 0 -ℤ c.args.cut.entry) = narrow _ 18 (omega (arith, ints, small)) (lit< tt) in
    inr (inl (record { sign = omega (arith, ints); upper = refl; lower = simp to_z-of_z at c.tighter-then-cut-lt0.ensures }))
