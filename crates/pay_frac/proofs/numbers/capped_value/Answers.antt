use Rattle.std.proofs.Common.{◌≡◌, ℕ, ◌+◌, ◌*◌, ◌-◌, ◌<◌, ◌≤◌, ◌^◌, min, get_or, take, sym, ap, ◌∙◌, arith}
use Rattle.std.specs.Str.Parse.{digits_value}
use Rattle.pay_frac.proofs.Digits.{digit_at, digit_byte, after-more}
use Rattle.pay_frac.proofs.numbers.capped_value.Goals as goal
use Rattle.pay_frac.proofs.numbers.capped_value.Goals.{then-next-lt-CAP, else-next-lt-CAP}

capped_less : (v n d most : ℕ) → v ≡ min n most → v * 10 + d < most → v * 10 + d ≡ min (n * 10 + d) most
capped_less v n d most h l = omega arith

capped_past : (v n d most : ℕ) → v ≡ min n most → most ≤ v * 10 + d → most ≡ min (n * 10 + d) most
capped_past v n d most h l = omega arith

pub overflow_sub-next : goal.overflow_sub-next
overflow_sub-next c =
    let digit = digit_at c.args.digits.now c.loop-digit.digit-index c.requires c.loop-digit-test.true in
    (digit_byte (get_or c.args.digits.now c.loop-digit.digit-index 0) digit).0

pub loop-digit-preserved : goal.loop-digit-preserved
loop-digit-preserved c =
    let item = get_or c.args.digits.now c.loop-digit.digit-index 0 in
    let digit = digit_at c.args.digits.now c.loop-digit.digit-index c.requires c.loop-digit-test.true in
    let more = after-more 0 c.args.digits.now c.loop-digit.digit-index c.loop-digit-test.true in
    let before = digits_value 10 (take c.loop-digit.digit-index c.args.digits.now) in
    let is : min (before * 10 + (item - 48)) (10 ^ 36) ≡ min (digits_value 10 (take (c.loop-digit.digit-index + 1) c.args.digits.now)) (10 ^ 36) =
    ap (λ d. min (before * 10 + d) (10 ^ 36)) (sym (digit_byte item digit).2) ∙ ap (λ n. min n (10 ^ 36)) (sym more) in
    elim c.if-next-lt-CAP.branch [
      | then-next-lt-CAP w ↦ w.value-is ∙ capped_less c.loop-digit.value before (item - 48) (10 ^ 36) c.loop-digit.invariant w.if-next-lt-CAP.true ∙ is
      | else-next-lt-CAP w ↦ w.value-is ∙ capped_past c.loop-digit.value before (item - 48) (10 ^ 36) c.loop-digit.invariant w.if-next-lt-CAP.false ∙ is
    ]
