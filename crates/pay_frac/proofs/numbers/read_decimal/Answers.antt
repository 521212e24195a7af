use Rattle.std.proofs.Common.{◌≡◌, ◌≤◌, ◌+◌, ◌++◌, length, refl, sym, ap, ◌∙◌, arith}
use Rattle.std.specs.Str.Parse.{AllDigits, digits_value, digits_value_after}
use Rattle.pay_frac.specs.Spelling.{decimal, IsForm, digit_count, form_text}
use Rattle.pay_frac.proofs.Digits.{after-append}
use Rattle.pay_frac.proofs.Forms.{form_beyond, form_read, count_form, power_small}
use Rattle.pay_frac.proofs.numbers.read_decimal.Goals as goal

pub returns-then-count-gt-MOST_DIGITS : goal.returns-then-count-gt-MOST_DIGITS
returns-then-count-gt-MOST_DIGITS c =
    let ds = c.args.front.now in
    let es = c.args.back.now in
    let back : AllDigits 10 es = c.if-not-are_digits.ensures.0 refl in
    let form : IsForm (decimal ds es) = (c.requires, back, omega arith) in
    form_beyond (decimal ds es) (length ds + length es) form (sym (count_form (decimal ds es) form)) c.if-count-gt-MOST_DIGITS.true

pub pow-requires : goal.pow-requires
pow-requires c = let p = power_small (length c.args.back.now) (omega arith) in omega arith

pub returns : goal.returns
returns c =
    let ds = c.args.front.now in
    let es = c.args.back.now in
    let back : AllDigits 10 es = c.if-not-are_digits.ensures.0 refl in
    let form : IsForm (decimal ds es) = (c.requires, back, omega arith) in
    let count : digit_count (form_text (decimal ds es)) ≤ 36 = omega (arith, count_form (decimal ds es) form, c.if-count-gt-MOST_DIGITS.false) in
    let value : c.digits_after-num.result ≡ digits_value 10 (ds ++ es) =
    c.digits_after-num.ensures.value ∙ ap (λ n. digits_value_after 10 n es) c.digits_after-whole.ensures.value ∙ sym (after-append 0 ds es) in
    form_read (decimal ds es) c.digits_after-num.result c.pow.result form count value c.pow.ensures
