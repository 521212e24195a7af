use Rattle.std.proofs.Common.{◌≡◌, pos, arith, rules, SFits}
use Rattle.std.specs.Int.{w128}
use Rattle.std.proofs.lemmas.Int.{ints, to_z-of_z}
use Rattle.game_model.specs.SelfGeneration.{part}
use Rattle.report_text.proofs.ReportLemmas.{words_more, fraction_read}
use Rattle.report_text.proofs.sets.point.Goals as goal

pub loop-i-preserved : goal.loop-i-preserved
loop-i-preserved c =
    let p : c.from.result ≡ part c.args.entry.now.point c.loop-i.i = first_of (assumption c.from.ensures, omega (arith, ints, c.from.ensures, c.part.ensures), search (rules, c.from.ensures, c.part.ensures)) in
    let q : c.from-in-loop-i.result ≡ pos c.args.sets.now.common = first_of (assumption c.from-in-loop-i.ensures, omega (arith, ints, c.from-in-loop-i.ensures, c.common.ensures.common), search (rules, c.from-in-loop-i.ensures, c.common.ensures.common)) in
    let f : SFits w128 c.from.result = search rules in
    let g : SFits w128 c.from-in-loop-i.result = search rules in
    words_more c.args.out.now.items c.loop-i.out.items c.fraction.new.out.items c.loop-i.i (part c.args.entry.now.point) (λ i. pos c.args.sets.now.common) c.loop-i.invariant
    (fraction_read c.from.result _ c.from-in-loop-i.result _ c.loop-i.out.items c.fraction.new.out.items p q
    (fraction_read _ c.from.result _ c.from-in-loop-i.result c.loop-i.out.items c.fraction.new.out.items (to_z-of_z w128 c.from.result f) (to_z-of_z w128 c.from-in-loop-i.result g) c.in_ok-fraction.ensures))
