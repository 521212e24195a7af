use Rattle.std.proofs.Common.{◌≤◌, ◌^◌, ℕ, arith, lit<}
use Rattle.std.specs.Prelude.{ℤ, pos, ◌*ℤ◌, ◌-ℤ◌}
use Rattle.std.specs.Int.{w32, w64, w128}
use Rattle.std.specs.Int.RustNames.{FitsSigned, unsigned_abs}
use Rattle.std.proofs.lemmas.Int.{ints, to_z-of_z}
use Rattle.exact_algebra.proofs.Fits.{fits64, fits128}
use Rattle.set_operator.proofs.Fits.{product128}
use Rattle.set_operator.proofs.Mosts.{times_upper, times_lower}
use Rattle.set_operator.proofs.most.most_of.Goals as goal

negative_small : (c : ℤ) (m : ℕ) → unsigned_abs c ≤ m → unsigned_abs (pos 0 -ℤ c) ≤ m
negative_small c m h = omega (arith, ints)

pub returns-then-c-gt0-clause-most : goal.returns-then-c-gt0-clause-most
returns-then-c-gt0-clause-most c =
    let f1 : FitsSigned w32 c.args.c = c.ranges.c in
    let f2 : FitsSigned w128 c.args.c = fits128 c.args.c 3 c.requires.part (lit< tt) in
    let f3 : FitsSigned w64 c.args.side.now.upper = fits64 c.args.side.now.upper (2 ^ 50) c.requires.upper (lit< tt) in
    let f4 : FitsSigned w128 c.args.side.now.upper = fits128 c.args.side.now.upper (2 ^ 50) c.requires.upper (lit< tt) in
    let f5 : FitsSigned w128 (c.args.c *ℤ c.args.side.now.upper) = product128 c.args.c c.args.side.now.upper 3 (2 ^ 50) c.requires.part c.requires.upper (lit< tt) in
    λ y den positive within. simp to_z-of_z (times_upper c.args.c y c.args.side.now.upper den (omega (arith, ints, c.if-c-gt0.true)) within.above)

pub returns-else-c-gt0-clause-most : goal.returns-else-c-gt0-clause-most
returns-else-c-gt0-clause-most c =
    let f1 : FitsSigned w32 c.args.c = c.ranges.c in
    let f2 : FitsSigned w128 c.args.c = fits128 c.args.c 3 c.requires.part (lit< tt) in
    let turned : unsigned_abs (pos 0 -ℤ c.args.c) ≤ 3 = negative_small c.args.c 3 c.requires.part in
    let f3 : FitsSigned w128 (pos 0 -ℤ c.args.c) = fits128 (pos 0 -ℤ c.args.c) 3 turned (lit< tt) in
    let f4 : FitsSigned w64 c.args.side.now.lower = fits64 c.args.side.now.lower (2 ^ 62) c.requires.lower (lit< tt) in
    let f5 : FitsSigned w128 c.args.side.now.lower = fits128 c.args.side.now.lower (2 ^ 62) c.requires.lower (lit< tt) in
    let f6 : FitsSigned w128 ((pos 0 -ℤ c.args.c) *ℤ c.args.side.now.lower) = product128 (pos 0 -ℤ c.args.c) c.args.side.now.lower 3 (2 ^ 62) turned c.requires.lower (lit< tt) in
    λ y den positive within. simp to_z-of_z (times_lower c.args.c y c.args.side.now.lower den (omega (arith, ints, c.if-c-gt0.false)) within.below)
