use Rattle.std.proofs.Common.{◌≡◌, sym, subst, arith}
use Rattle.std.specs.Prelude.{pos, ◌<ℤ◌}
use Rattle.std.proofs.lemmas.Int.{ints}
use Rattle.pay_words.proofs.OptionLemmas.{discount_read}
use Rattle.pay_words.proofs.options.read_discount.Goals as goal
use Rattle.pay_words.proofs.options.read_discount.Goals.{then-num-le0-via-then-num-le0, then-num-le0-via-else-num-le0+then-num-den}

pub returns-then-num-le0-clause-none : goal.returns-then-num-le0-clause-none
returns-then-num-le0-clause-none c d h =
    let f = c.in_ok-discount.discount in
    let same : f ≡ d = discount_read c.args.text.now c.read_number.result f d c.in_ok-discount.ensures.value c.read_number.ensures.value h in
    let above : pos 0 <ℤ f.num = subst (λ x. pos 0 <ℤ x.num) (sym same) h.above in
    let below : f.num <ℤ f.den = subst (λ x. x.num <ℤ x.den) (sym same) h.below in
    elim c.then-num-le0.branch [
      | then-num-le0-via-then-num-le0 w ↦ omega (arith, ints, above, c.num.ensures.value, w.if-num-le0.true)
      | then-num-le0-via-else-num-le0+then-num-den w ↦ omega (arith, ints, below, w.num-else-num-le0.ensures.value, w.den.ensures.value, w.if-num-den.true)
    ]
