use Rattle.pay_frac.proofs.Exactly.{number_exact}
use Rattle.pay_frac.proofs.numbers.read_number.Goals as goal

pub returns-clause-exact : goal.returns-clause-exact
returns-clause-exact c =
    let e = c.spelled_number.ensures in
    number_exact c.args.token.now c.spelled_number.result e.not_number.1 e.beyond e.value
