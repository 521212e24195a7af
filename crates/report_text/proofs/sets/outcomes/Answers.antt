use Rattle.std.proofs.Common.{ℕ, ◌∙◌, get_or, arith, rules, SFits}
use Rattle.std.specs.Int.{w128}
use Rattle.std.proofs.lemmas.Int.{to_z-of_z}
use Rattle.std.proofs.lemmas.List.{get_or_default}
use Rattle.report_text.specs.ReportText.{outcome_word}
use Rattle.report_text.proofs.SetLemmas.{mapped_more, outcome_read}
use Rattle.report_text.proofs.sets.outcomes.Goals as goal

pub loop-i-preserved : goal.loop-i-preserved
loop-i-preserved c =
    let here : ℕ × ℕ = get_or c.args.lottery.now c.loop-i.i (0, 0) in
    let f : SFits w128 c.weight.result = search rules in
    mapped_more outcome_word c.args.lottery.now c.loop-i.i here c.args.out.now.items c.loop-i.out.items c.outcome.new.out.items (omega arith) (get_or_default c.args.lottery.now c.loop-i.i (0, 0) here (omega arith)) c.loop-i.invariant
    (outcome_read here c.entry.result _ c.loop-i.out.items c.outcome.new.out.items c.entry.ensures (to_z-of_z w128 c.weight.result f ∙ c.weight.ensures.weight) c.in_ok-outcome.ensures)
