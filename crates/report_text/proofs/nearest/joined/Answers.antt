use Rattle.std.proofs.Common.{arith, rules, SFits}
use Rattle.std.specs.Int.{w128}
use Rattle.std.proofs.lemmas.Int.{to_z-of_z}
use Rattle.report_text.proofs.PointLoop.{below_three, part_divides, part_equal}
use Rattle.report_text.proofs.nearest.joined.Goals as goal

pub over-requires-clause-divides : goal.over-requires-clause-divides
over-requires-clause-divides c = part_divides c.args.parts.now 0 c.index-parts-0.result c.args.den _ (omega arith) (to_z-of_z w128 c.args.den c.ranges.den) (c.requires.parts 0 (omega arith))

pub over-requires-2-clause-divides : goal.over-requires-2-clause-divides
over-requires-2-clause-divides c = part_divides c.args.parts.now 1 c.index-parts-1.result c.args.den _ (omega arith) (to_z-of_z w128 c.args.den c.ranges.den) (c.requires.parts 1 (omega arith))

pub over-requires-3-clause-divides : goal.over-requires-3-clause-divides
over-requires-3-clause-divides c = part_divides c.args.parts.now 2 c.index-parts-2.result c.args.den _ (omega arith) (to_z-of_z w128 c.args.den c.ranges.den) (c.requires.parts 2 (omega arith))

pub returns-clause-parts : goal.returns-clause-parts
returns-clause-parts c =
    let d = to_z-of_z w128 c.args.den c.ranges.den in
    let f0 : SFits w128 c.over.result = search rules in
    let f1 : SFits w128 c.over-2.result = search rules in
    let f2 : SFits w128 c.over-3.result = search rules in
    below_three _
    (part_equal c.args.parts.now 0 c.index-parts-0.result c.over.result _ c.args.den _ (omega arith) (to_z-of_z w128 c.over.result f0) d c.over.ensures.equal)
    (part_equal c.args.parts.now 1 c.index-parts-1.result c.over-2.result _ c.args.den _ (omega arith) (to_z-of_z w128 c.over-2.result f1) d c.over-2.ensures.equal)
    (part_equal c.args.parts.now 2 c.index-parts-2.result c.over-3.result _ c.args.den _ (omega arith) (to_z-of_z w128 c.over-3.result f2) d c.over-3.ensures.equal)
