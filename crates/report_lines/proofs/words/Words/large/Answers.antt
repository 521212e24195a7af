use Rattle.std.proofs.Common.{◌≡◌, arith, pos}
use Rattle.std.proofs.lemmas.Int.{ints}
use Rattle.report_lines.proofs.words.Words.large.Goals as goal

pub returns-clause-read : goal.returns-clause-read
returns-clause-read c = λ n e lo hi.
    let r : c.whole.result ≡ pos n = c.whole.ensures.read (pos n) e (omega arith) (omega (arith, ints)) (omega (arith, ints)) in
    omega (arith, ints)
