use Rattle.std.proofs.Common.{◌≡◌, pos, ◌*ℤ◌, Err, inl, inr, ⊎_elim, sym, ap, subst, ◌∙◌}
use Rattle.std.proofs.lemmas.Result.{err_from_is_err_and}
use Rattle.pay_frac.specs.declared.numbers.NumberFault.TheVariants.{NotNumber}
use Rattle.pay_frac.specs.Spelling.{spelled_num}
use Rattle.pay_frac.proofs.Spellings.{IsSigned, no_spelling, read_ok, num_small, den_small, den_positive, parts_read, not_beyond, spells, fault_not_number, fault_beyond, fault_no_value, spelled_token}
use Rattle.pay_frac.proofs.numbers.spelled_number.Goals as goal

pub returns-in_err-num-clause-not_number : goal.returns-in_err-num-clause-not_number
returns-in_err-num-clause-not_number c =
    let token = c.args.token.now in
    let text = c.split_sign-negative.result.1.now in
    let negative = c.split_sign-negative.result.0 in
    let r = c.read_unsigned.result in
    let cut : IsSigned token text negative = record { text_is = c.split_sign-negative.ensures.text; plain = c.split_sign-negative.ensures.plain } in
    let p = err_from_is_err_and c.from_residual.result c.from_residual.ensures.1 in
    let fault = c.in_err-num.field-0.0 in
    let given = c.read_unsigned.ensures.given in
    let spelled = c.read_unsigned.ensures.spelled in
    let was = c.in_err-num.was in
    let is = p.1 ∙ ap Err p.2 in (
      λ e s h. let none : fault ≡ NotNumber = cc (sym is ∙ e) in no_spelling token text negative r cut given (was ∙ ap Err none) s h,
      λ n. is ∙ ap Err (fault_not_number token text negative r fault cut spelled was n),
    )

pub returns-in_err-num-clause-beyond : goal.returns-in_err-num-clause-beyond
returns-in_err-num-clause-beyond c =
    let token = c.args.token.now in
    let text = c.split_sign-negative.result.1.now in
    let negative = c.split_sign-negative.result.0 in
    let r = c.read_unsigned.result in
    let cut : IsSigned token text negative = record { text_is = c.split_sign-negative.ensures.text; plain = c.split_sign-negative.ensures.plain } in
    let p = err_from_is_err_and c.from_residual.result c.from_residual.ensures.1 in
    let fault = c.in_err-num.field-0.0 in
    let given = c.read_unsigned.ensures.given in
    let spelled = c.read_unsigned.ensures.spelled in
    let was = c.in_err-num.was in
    let is = p.1 ∙ ap Err p.2 in
    λ s h l. is ∙ ap Err (fault_beyond token text negative r fault s cut given was h l)

pub returns-in_err-num-clause-value : goal.returns-in_err-num-clause-value
returns-in_err-num-clause-value c =
    let token = c.args.token.now in
    let text = c.split_sign-negative.result.1.now in
    let negative = c.split_sign-negative.result.0 in
    let r = c.read_unsigned.result in
    let cut : IsSigned token text negative = record { text_is = c.split_sign-negative.ensures.text; plain = c.split_sign-negative.ensures.plain } in
    let p = err_from_is_err_and c.from_residual.result c.from_residual.ensures.1 in
    let fault = c.in_err-num.field-0.0 in
    let given = c.read_unsigned.ensures.given in
    let spelled = c.read_unsigned.ensures.spelled in
    let was = c.in_err-num.was in
    let is = p.1 ∙ ap Err p.2 in
    λ s h l. absurd (fault_no_value token text negative r fault s cut given was h l)

pub returns-in_err-num-clause-spelled : goal.returns-in_err-num-clause-spelled
returns-in_err-num-clause-spelled c =
    let token = c.args.token.now in
    let text = c.split_sign-negative.result.1.now in
    let negative = c.split_sign-negative.result.0 in
    let r = c.read_unsigned.result in
    let cut : IsSigned token text negative = record { text_is = c.split_sign-negative.ensures.text; plain = c.split_sign-negative.ensures.plain } in
    let p = err_from_is_err_and c.from_residual.result c.from_residual.ensures.1 in
    let fault = c.in_err-num.field-0.0 in
    let given = c.read_unsigned.ensures.given in
    let spelled = c.read_unsigned.ensures.spelled in
    let was = c.in_err-num.was in
    let is = p.1 ∙ ap Err p.2 in
    ⊎_elim (λ s. inl s) (λ e. inr (is ∙ ap Err e)) (spelled_token token text negative r fault cut spelled was)

pub signed-requires-clause-num_fits : goal.signed-requires-clause-num_fits
signed-requires-clause-num_fits c =
    let token = c.args.token.now in
    let text = c.split_sign-negative.result.1.now in
    let negative = c.split_sign-negative.result.0 in
    let r = c.read_unsigned.result in
    let cut : IsSigned token text negative = record { text_is = c.split_sign-negative.ensures.text; plain = c.split_sign-negative.ensures.plain } in
    let num = c.in_ok-num.num in
    let den = c.in_ok-num.den in
    let given = c.read_unsigned.ensures.given in
    let spelled = c.read_unsigned.ensures.spelled in
    let was = c.in_ok-num.was in
    let read = read_ok text num den r given spelled was in
    num_small text num den read

pub signed-requires-clause-den_fits : goal.signed-requires-clause-den_fits
signed-requires-clause-den_fits c =
    let token = c.args.token.now in
    let text = c.split_sign-negative.result.1.now in
    let negative = c.split_sign-negative.result.0 in
    let r = c.read_unsigned.result in
    let cut : IsSigned token text negative = record { text_is = c.split_sign-negative.ensures.text; plain = c.split_sign-negative.ensures.plain } in
    let num = c.in_ok-num.num in
    let den = c.in_ok-num.den in
    let given = c.read_unsigned.ensures.given in
    let spelled = c.read_unsigned.ensures.spelled in
    let was = c.in_ok-num.was in
    let read = read_ok text num den r given spelled was in
    den_small text num den read

pub signed-requires-clause-not_zero : goal.signed-requires-clause-not_zero
signed-requires-clause-not_zero c =
    let token = c.args.token.now in
    let text = c.split_sign-negative.result.1.now in
    let negative = c.split_sign-negative.result.0 in
    let r = c.read_unsigned.result in
    let cut : IsSigned token text negative = record { text_is = c.split_sign-negative.ensures.text; plain = c.split_sign-negative.ensures.plain } in
    let num = c.in_ok-num.num in
    let den = c.in_ok-num.den in
    let given = c.read_unsigned.ensures.given in
    let spelled = c.read_unsigned.ensures.spelled in
    let was = c.in_ok-num.was in
    let read = read_ok text num den r given spelled was in
    den_positive text num den read

pub returns-clause-not_number : goal.returns-clause-not_number
returns-clause-not_number c =
    let token = c.args.token.now in
    let text = c.split_sign-negative.result.1.now in
    let negative = c.split_sign-negative.result.0 in
    let r = c.read_unsigned.result in
    let cut : IsSigned token text negative = record { text_is = c.split_sign-negative.ensures.text; plain = c.split_sign-negative.ensures.plain } in
    let num = c.in_ok-num.num in
    let den = c.in_ok-num.den in
    let given = c.read_unsigned.ensures.given in
    let spelled = c.read_unsigned.ensures.spelled in
    let was = c.in_ok-num.was in
    let read = read_ok text num den r given spelled was in
    (λ e. cc, λ n. absurd (n _ (spells token text negative read.form cut read.right read.text_is)))

pub returns-clause-beyond : goal.returns-clause-beyond
returns-clause-beyond c =
    let token = c.args.token.now in
    let text = c.split_sign-negative.result.1.now in
    let negative = c.split_sign-negative.result.0 in
    let r = c.read_unsigned.result in
    let cut : IsSigned token text negative = record { text_is = c.split_sign-negative.ensures.text; plain = c.split_sign-negative.ensures.plain } in
    let num = c.in_ok-num.num in
    let den = c.in_ok-num.den in
    let given = c.read_unsigned.ensures.given in
    let spelled = c.read_unsigned.ensures.spelled in
    let was = c.in_ok-num.was in
    let read = read_ok text num den r given spelled was in
    λ s h l. absurd (not_beyond token text negative num den s cut read l)

pub returns-clause-value : goal.returns-clause-value
returns-clause-value c =
    let token = c.args.token.now in
    let text = c.split_sign-negative.result.1.now in
    let negative = c.split_sign-negative.result.0 in
    let r = c.read_unsigned.result in
    let cut : IsSigned token text negative = record { text_is = c.split_sign-negative.ensures.text; plain = c.split_sign-negative.ensures.plain } in
    let num = c.in_ok-num.num in
    let den = c.in_ok-num.den in
    let given = c.read_unsigned.ensures.given in
    let spelled = c.read_unsigned.ensures.spelled in
    let was = c.in_ok-num.was in
    let read = read_ok text num den r given spelled was in
    λ s h l.
    let parts = parts_read token text negative num den r s cut given was h l in
    let f = c.signed.result in
    (subst (λ z. f.num *ℤ z ≡ spelled_num s *ℤ f.den) parts.1 (subst (λ z. f.num *ℤ pos den ≡ z *ℤ f.den) parts.0 c.signed.ensures.equal), c.signed.ensures.lowest)

pub returns-clause-spelled : goal.returns-clause-spelled
returns-clause-spelled c =
    let token = c.args.token.now in
    let text = c.split_sign-negative.result.1.now in
    let negative = c.split_sign-negative.result.0 in
    let r = c.read_unsigned.result in
    let cut : IsSigned token text negative = record { text_is = c.split_sign-negative.ensures.text; plain = c.split_sign-negative.ensures.plain } in
    let num = c.in_ok-num.num in
    let den = c.in_ok-num.den in
    let given = c.read_unsigned.ensures.given in
    let spelled = c.read_unsigned.ensures.spelled in
    let was = c.in_ok-num.was in
    let read = read_ok text num den r given spelled was in
    inl (_, spells token text negative read.form cut read.right read.text_is)
