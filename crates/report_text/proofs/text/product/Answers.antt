use Rattle.std.proofs.Common.{◌<◌, ◌^◌, arith}
use Rattle.report_text.proofs.ReportLemmas.{solves_fit}
use Rattle.report_text.proofs.text.product.Goals as goal

pub overflow_mul-result : goal.overflow_mul-result
overflow_mul-result c =
    let few : c.args.sweeps < 2 ^ 64 = omega arith in
    let small : c.args.rows < 2 ^ 32 = omega arith in
    let from : c.from.result < 2 ^ 64 = omega (arith, c.from.ensures, few) in
    let from2 : c.from-2.result < 2 ^ 32 = omega (arith, c.from-2.ensures, small) in
    omega (arith, solves_fit c.from.result c.from-2.result from from2)
