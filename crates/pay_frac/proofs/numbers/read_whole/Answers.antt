use Rattle.std.proofs.Common.{length, sym, arith}
use Rattle.pay_frac.specs.Spelling.{whole}
use Rattle.pay_frac.proofs.Digits.{count_digits}
use Rattle.pay_frac.proofs.Forms.{form_beyond}
use Rattle.pay_frac.proofs.numbers.read_whole.Goals as goal

pub returns-then-digits-gt-MOST_DIGITS : goal.returns-then-digits-gt-MOST_DIGITS
returns-then-digits-gt-MOST_DIGITS c =
    let ds = c.args.digits.now in
    form_beyond (whole ds) (length ds) (omega arith, c.requires) (sym (count_digits ds c.requires)) c.if-digits-gt-MOST_DIGITS.true
