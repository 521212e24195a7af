use Rattle.std.proofs.Common.{◌≡◌, pos, arith, rules, SFits}
use Rattle.std.specs.Int.{w128}
use Rattle.std.proofs.lemmas.Int.{ints, to_z-of_z}
use Rattle.report_text.specs.ReportText.{discount_at}
use Rattle.report_text.proofs.ReportLemmas.{words_more, discount_word_at, fraction_read}
use Rattle.report_text.proofs.text.discount_words.Goals as goal

pub loop-i-preserved : goal.loop-i-preserved
loop-i-preserved c =
    let p : c.from.result ≡ pos c.get.result.now.0 = first_of (assumption c.from.ensures, omega (arith, ints, c.from.ensures), search (rules, c.from.ensures)) in
    let q : c.from-in-loop-i.result ≡ pos c.get.result.now.1 = first_of (assumption c.from-in-loop-i.ensures, omega (arith, ints, c.from-in-loop-i.ensures), search (rules, c.from-in-loop-i.ensures)) in
    let f : SFits w128 c.from.result = search rules in
    let g : SFits w128 c.from-in-loop-i.result = search rules in
    words_more c.args.out.now.items c.loop-i.out.items c.fraction.new.out.items c.loop-i.i (λ i. pos (discount_at c.args.discounts.now i).0) (λ i. pos (discount_at c.args.discounts.now i).1) c.loop-i.invariant
    (discount_word_at c.args.discounts.now c.loop-i.i c.get.result.now c.from.result c.from-in-loop-i.result c.loop-i.out.items c.fraction.new.out.items (omega arith) c.get.ensures p q
    (fraction_read _ c.from.result _ c.from-in-loop-i.result c.loop-i.out.items c.fraction.new.out.items (to_z-of_z w128 c.from.result f) (to_z-of_z w128 c.from-in-loop-i.result g) c.in_ok-fraction.ensures))
