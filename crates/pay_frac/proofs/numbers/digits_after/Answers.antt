use Rattle.std.proofs.Common.{◌+◌, ◌*◌, get_or, sym, ap, ◌∙◌, arith}
use Rattle.std.specs.Char.{digit_value}
use Rattle.pay_frac.proofs.Digits.{digit_at, digit_byte, after-more, step_below, step_small}
use Rattle.pay_frac.proofs.numbers.digits_after.Goals as goal

pub overflow_mul-value : goal.overflow_mul-value
overflow_mul-value c =
    let digit = digit_at c.args.digits.now c.loop-digit.digit-index c.requires.digits c.loop-digit-test.true in
    let small = step_small c.args.before c.loop-digit.digit-index c.loop-digit.value (get_or c.args.digits.now c.loop-digit.digit-index 0) c.loop-digit.invariant.1 digit (omega arith) in
    record { fits = omega arith }

pub overflow_sub-value : goal.overflow_sub-value
overflow_sub-value c =
    let digit = digit_at c.args.digits.now c.loop-digit.digit-index c.requires.digits c.loop-digit-test.true in
    (digit_byte (get_or c.args.digits.now c.loop-digit.digit-index 0) digit).0

pub overflow_add-value : goal.overflow_add-value
overflow_add-value c =
    let digit = digit_at c.args.digits.now c.loop-digit.digit-index c.requires.digits c.loop-digit-test.true in
    let small = step_small c.args.before c.loop-digit.digit-index c.loop-digit.value (get_or c.args.digits.now c.loop-digit.digit-index 0) c.loop-digit.invariant.1 digit (omega arith) in
    record { fits = small }

pub loop-digit-preserved : goal.loop-digit-preserved
loop-digit-preserved c =
    let item = get_or c.args.digits.now c.loop-digit.digit-index 0 in
    let digit = digit_at c.args.digits.now c.loop-digit.digit-index c.requires.digits c.loop-digit-test.true in
    let more = after-more c.args.start c.args.digits.now c.loop-digit.digit-index c.loop-digit-test.true in (
      sym (more ∙ ap (λ n. n * 10 + digit_value item) (sym c.loop-digit.invariant.0) ∙ ap (λ d. c.loop-digit.value * 10 + d) (digit_byte item digit).2),
      step_below c.args.before c.loop-digit.digit-index c.loop-digit.value item c.loop-digit.invariant.1 digit,
    )
