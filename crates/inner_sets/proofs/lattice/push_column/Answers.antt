use Rattle.std.proofs.Common.{◌≡◌, ◌+◌, refl, subst, ◌∙◌, rules, arith, to_z, of_z, FitsSigned}
use Rattle.std.specs.Prelude.{ℤ}
use Rattle.inner_sets.specs.Gains.{Adds, IsColumnBelow}
use mir.Syntax.{w64}
use Rattle.std.proofs.lemmas.Int.{to_z-of_z}
use Rattle.inner_sets.proofs.Gains.{column_none, column_more, column_all}
use Rattle.inner_sets.proofs.lattice.push_column.Goals as goal

pub loop-j-init : goal.loop-j-init
loop-j-init c = column_none c.args.n _ c.args.range.0 c.args.range.1 c.args.points.now.items

pub loop-j-preserved : goal.loop-j-preserved
loop-j-preserved c =
    let f2 : FitsSigned w64 c.lattice_part-second.result = search rules in
    column_more c.args.n c.loop-j.j _ c.args.range.0 c.args.range.1 _ (to_z w64 (of_z w64 c.lattice_part-second.result)) c.args.points.now.items c.loop-j.points.items c.push.new.self.items c.loop-j.invariant (c.in_ok-push.ensures {u = tt}).items refl (to_z-of_z w64 c.lattice_part-second.result f2 ∙ c.lattice_part-second.ensures)

pub returns : goal.returns
returns c =
    let end : c.loop-j.j ≡ c.args.n + 1 = omega (arith, c.loop-j-test.false, c.loop-j.auto) in
    subst (λ (z : ℤ). Adds 17 (IsColumnBelow c.args.n z c.args.range.0 c.args.range.1 (c.args.n + 1)) c.args.points.now.items c.loop-j.points.items) (to_z-of_z w64 c.args.first c.ranges.first)
    (column_all c.args.n c.loop-j.j (to_z w64 (of_z w64 c.args.first)) c.args.range.0 c.args.range.1 c.args.points.now.items c.loop-j.points.items c.requires.n end c.loop-j.invariant)
