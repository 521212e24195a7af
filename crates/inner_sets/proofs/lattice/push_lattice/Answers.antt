use Rattle.std.proofs.Common.{◌≡◌, ◌+◌, ◌∙◌, rules, arith, FitsSigned}
use mir.Syntax.{w64}
use Rattle.std.proofs.lemmas.Int.{to_z-of_z}
use Rattle.inner_sets.proofs.Gains.{grid_none, grid_more, lattice_from_grid}
use Rattle.inner_sets.proofs.lattice.push_lattice.Goals as goal

pub loop-j-init : goal.loop-j-init
loop-j-init c = grid_none c.args.n c.range_of-first.result.0 c.range_of-first.result.1 c.range_of-second.result.0 c.range_of-second.result.1 c.args.points.now.items

pub loop-j-preserved : goal.loop-j-preserved
loop-j-preserved c =
    let f2 : FitsSigned w64 c.lattice_part-part.result = search rules in
    grid_more c.args.n c.loop-j.j c.range_of-first.result.0 c.range_of-first.result.1 c.range_of-second.result.0 c.range_of-second.result.1 _ c.args.points.now.items c.loop-j.points.items c.push_column.new.points.items c.loop-j.invariant (c.in_ok-push_column.ensures {u = tt}) (to_z-of_z w64 c.lattice_part-part.result f2 ∙ c.lattice_part-part.ensures)

pub returns : goal.returns
returns c =
    let end : c.loop-j.j ≡ c.args.n + 1 = omega (arith, c.loop-j-test.false, c.loop-j.auto) in
    lattice_from_grid c.args.game.now c.args.n c.loop-j.j c.range_of-first.result.0 c.range_of-first.result.1 c.range_of-second.result.0 c.range_of-second.result.1 c.args.points.now.items c.loop-j.points.items c.requires.n end c.range_of-first.ensures.range c.range_of-second.ensures.range c.loop-j.invariant
