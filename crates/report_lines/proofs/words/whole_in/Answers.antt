use Rattle.std.proofs.Common.{◌≡◌, ap, ◌∙◌, arith, rules, SFits, pos}
use Rattle.std.specs.Int.{w128}
use Rattle.std.proofs.lemmas.Int.{ints, to_z-of_z}
use Rattle.pay_frac.specs.Ratio.{Ratio}
use Rattle.report_lines.proofs.Numbers.{over_one, over_one_lowest, whole_count}
use Rattle.report_lines.proofs.words.whole_in.Goals as goal
use Rattle.report_lines.proofs.words.whole_in.Goals.{else-den-eq1-via-then-den-eq1+then-low-value+else-value-high, else-den-eq1-via-then-den-eq1+else-low-value, else-den-eq1-via-else-den-eq1}

pub returns-then-value-high-clause-read : goal.returns-then-value-high-clause-read
returns-then-value-high-clause-read c = λ x e h lo hi.
    let f : SFits w128 c.num-value.result = search rules in
    to_z-of_z w128 c.num-value.result f
    ∙ c.num-value.ensures.value ∙ ap (λ (r : Ratio). r.num) (c.fraction_in-fraction.ensures.read (over_one x) (over_one_lowest x h) (whole_count x h) e)

pub returns-else-den-eq1-clause-read : goal.returns-else-den-eq1-clause-read
returns-else-den-eq1-clause-read c = λ x e h lo hi.
    let r = c.fraction_in-fraction.ensures.read (over_one x) (over_one_lowest x h) (whole_count x h) e in
    let d : c.den.result ≡ pos 1 = c.den.ensures.value ∙ ap (λ (r : Ratio). r.den) r in
    let v : c.num-value.result ≡ x = c.num-value.ensures.value ∙ ap (λ (r : Ratio). r.num) r in
    elim c.else-den-eq1.branch [
      | else-den-eq1-via-then-den-eq1+then-low-value+else-value-high w ↦ absurd (omega (arith, ints, w.if-value-high.false))
      | else-den-eq1-via-then-den-eq1+else-low-value w ↦ absurd (omega (arith, ints, w.if-low-value.false))
      | else-den-eq1-via-else-den-eq1 w ↦ absurd (first_of (search (rules, w.if-den-eq1.false, d), omega (arith, ints, w.if-den-eq1.false), cc))
    ]
