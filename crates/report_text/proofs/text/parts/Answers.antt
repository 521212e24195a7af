use Rattle.std.proofs.Common.{rules, SFits}
use Rattle.std.specs.Int.{w128}
use Rattle.std.proofs.lemmas.Int.{to_z-of_z}
use Rattle.game_model.specs.SelfGeneration.{part}
use Rattle.report_text.proofs.ReportLemmas.{words_more, fraction_read}
use Rattle.report_text.proofs.text.parts.Goals as goal

pub loop-i-preserved : goal.loop-i-preserved
loop-i-preserved c =
    let f : SFits w128 (part c.args.point.now.num c.loop-i.i) = search rules in
    let g : SFits w128 c.args.point.now.den = search rules in
    words_more c.args.out.now.items c.loop-i.out.items c.fraction.new.out.items c.loop-i.i (part c.args.point.now.num) (λ i. c.args.point.now.den) c.loop-i.invariant
    (fraction_read _ (part c.args.point.now.num c.loop-i.i) _ c.args.point.now.den c.loop-i.out.items c.fraction.new.out.items (to_z-of_z w128 (part c.args.point.now.num c.loop-i.i) f) (to_z-of_z w128 c.args.point.now.den g) c.in_ok-fraction.ensures)
