use Rattle.pay_words.proofs.options.new_setting.Goals as goal

pub returns-in_err-setting-clause-none : goal.returns-in_err-setting-clause-none
returns-in_err-setting-clause-none c = rw c.from_residual.ensures (λ s h. absurd (c.in_err-setting.ensures.none s h))
