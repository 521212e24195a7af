use Rattle.std.proofs.Common.{◌+◌, length, refl, sym, arith}
use Rattle.std.specs.Str.Parse.{AllDigits}
use Rattle.std.proofs.lemmas.Bool.{eqb-false}
use Rattle.pay_frac.specs.Spelling.{fraction, IsForm}
use Rattle.pay_frac.proofs.Forms.{form_beyond, count_form}
use Rattle.pay_frac.proofs.numbers.read_fraction.Goals as goal

pub returns-then-count-gt-MOST_DIGITS : goal.returns-then-count-gt-MOST_DIGITS
returns-then-count-gt-MOST_DIGITS c =
    let ds = c.args.front.now in
    let es = c.args.back.now in
    let back : AllDigits 10 es = c.if-not-are_digits.ensures.0 refl in
    let first = eqb-false (length ds) 0 (sym c.if-is_empty.ensures) in
    let form : IsForm (fraction ds es) = ((omega arith, c.requires), back, c.if-not-has_other_than_zero.ensures.0 refl) in
    form_beyond (fraction ds es) (length ds + length es) form (sym (count_form (fraction ds es) form)) c.if-count-gt-MOST_DIGITS.true
