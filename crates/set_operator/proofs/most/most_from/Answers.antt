use Rattle.std.proofs.Common.{◌≡◌, ◌≤◌, ◌^◌, ◌+◌, arith, ap, lit<}
use Rattle.std.specs.Prelude.{pos, ◌*ℤ◌, ◌+ℤ◌}
use Rattle.std.specs.Int.{w64, w128}
use Rattle.std.specs.Int.RustNames.{FitsSigned, unsigned_abs}
use Rattle.std.proofs.lemmas.Int.{to_z-of_z}
use Rattle.exact_algebra.proofs.Order.{abs_sum}
use Rattle.exact_algebra.proofs.Fits.{fits128}
use Rattle.set_operator.proofs.Fits.{sum128}
use Rattle.set_operator.proofs.most.most_from.Goals as goal

pub returns-clause-value : goal.returns-clause-value
returns-clause-value c =
    let f1 : FitsSigned w128 c.args.stage = c.ranges.stage in
    let f2 : FitsSigned w128 c.args.spread = c.ranges.spread in
    let f3 : FitsSigned w128 c.scaled.result = record { sfits = c.scaled.type_inv } in
    let f4 : FitsSigned w64 c.args.level = c.ranges.level in
    let f5 : FitsSigned w128 c.args.level = fits128 c.args.level (2 ^ 50) c.requires.level (lit< tt) in
    let two : unsigned_abs (c.scaled.result +ℤ c.args.stage) ≤ 2 ^ 74 + 2 ^ 64 = abs_sum c.scaled.result c.args.stage (2 ^ 74) (2 ^ 64) c.scaled.ensures.bound c.requires.stage in
    let f6 : FitsSigned w128 (c.scaled.result +ℤ c.args.stage) = fits128 (c.scaled.result +ℤ c.args.stage) (2 ^ 74 + 2 ^ 64) two (lit< tt) in
    let f7 : FitsSigned w128 (c.scaled.result +ℤ c.args.stage +ℤ c.args.spread) = sum128 (c.scaled.result +ℤ c.args.stage) c.args.spread (2 ^ 74 + 2 ^ 64) (2 ^ 76) two c.requires.spread (lit< tt) in
    let is : c.scaled.result ≡ pos c.args.least *ℤ c.args.level = simp to_z-of_z at c.scaled.ensures.value in
    simp to_z-of_z (ap (λ z. z +ℤ c.args.stage +ℤ c.args.spread) is)

pub returns-clause-bound : goal.returns-clause-bound
returns-clause-bound c =
    let f1 : FitsSigned w128 c.args.stage = c.ranges.stage in
    let f2 : FitsSigned w128 c.args.spread = c.ranges.spread in
    let f3 : FitsSigned w128 c.scaled.result = record { sfits = c.scaled.type_inv } in
    let two : unsigned_abs (c.scaled.result +ℤ c.args.stage) ≤ 2 ^ 74 + 2 ^ 64 = abs_sum c.scaled.result c.args.stage (2 ^ 74) (2 ^ 64) c.scaled.ensures.bound c.requires.stage in
    let f6 : FitsSigned w128 (c.scaled.result +ℤ c.args.stage) = fits128 (c.scaled.result +ℤ c.args.stage) (2 ^ 74 + 2 ^ 64) two (lit< tt) in
    let all : unsigned_abs (c.scaled.result +ℤ c.args.stage +ℤ c.args.spread) ≤ (2 ^ 74 + 2 ^ 64) + 2 ^ 76 = abs_sum (c.scaled.result +ℤ c.args.stage) c.args.spread (2 ^ 74 + 2 ^ 64) (2 ^ 76) two c.requires.spread in
    let f7 : FitsSigned w128 (c.scaled.result +ℤ c.args.stage +ℤ c.args.spread) = sum128 (c.scaled.result +ℤ c.args.stage) c.args.spread (2 ^ 74 + 2 ^ 64) (2 ^ 76) two c.requires.spread (lit< tt) in
    simp to_z-of_z (omega arith)
