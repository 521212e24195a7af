use Rattle.std.proofs.Common.{◌≡◌, Ok, refl, sym, ap, ◌∙◌}
use Rattle.pay_frac.specs.Number.{number_of}
use Rattle.report_lines.specs.Spelled.{ratio_word}
use Rattle.report_lines.proofs.Numbers.{word_again, few_digits, few_kept, zero_few, same_ok, no_err}
use Rattle.report_lines.proofs.words.fraction_in.Goals as goal

pub returns-in-Ok-clause-few : goal.returns-in-Ok-clause-few
returns-in-Ok-clause-few c = few_kept c.args.word.now c.as_written.result (few_digits c.args.word.now (Ok c.in-Ok.fraction) c.in-Ok.fraction c.in-Ok.ensures.beyond c.in-Ok.ensures.spelled refl) c.as_written.ensures.other

pub returns-in-Ok-clause-read : goal.returns-in-Ok-clause-read
returns-in-Ok-clause-read c = λ r low few e.
    let same : c.in-Ok.fraction ≡ r = same_ok c.in-Ok.fraction r (number_of c.args.word.now) c.in-Ok.ensures.exact (word_again c.args.word.now r low few e) in
    c.as_written.ensures.written (e ∙ ap ratio_word (sym same)) ∙ same

pub returns-in-Err-clause-few : goal.returns-in-Err-clause-few
returns-in-Err-clause-few c = zero_few c.zero.result c.zero.ensures.value

pub returns-in-Err-clause-read : goal.returns-in-Err-clause-read
returns-in-Err-clause-read c = λ r low few e. absurd (no_err _ r (number_of c.args.word.now) c.in-Err.ensures.exact (word_again c.args.word.now r low few e))
