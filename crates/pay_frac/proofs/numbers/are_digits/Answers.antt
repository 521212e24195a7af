use Rattle.std.proofs.Common.{◌<◌, ◌≤◌, length, take, subst, ⊎_elim, arith, eq-eqb}
use Rattle.std.specs.Str.Parse.{AllDigits}
use Rattle.std.proofs.Math.Seq.{take-length}
use Rattle.std.proofs.lemmas.Bool.{cases_lt, eqb-true}
use Rattle.pay_frac.proofs.Digits.{digit_at}
use Rattle.pay_frac.proofs.numbers.are_digits.Goals as goal

pub returns : goal.returns
returns c =
    let n = c.leading_digits.result in
    let text = c.args.text.now in (
      λ t. subst (λ ds. AllDigits 10 ds) (take-length text) (subst (λ k. AllDigits 10 (take k text)) (eqb-true n (length text) t) c.leading_digits.ensures.digits),
      λ a. ⊎_elim
          (λ (l : n < length text). absurd (let d = digit_at text n a l in let e = c.leading_digits.ensures.ends l in omega arith))
          (λ (l : length text ≤ n). eq-eqb n (length text) (let b = c.leading_digits.ensures.bound in omega arith))
          (cases_lt n (length text)),
    )
