use Rattle.std.proofs.Common.{arith}
use Rattle.std.specs.Prelude.{◌-ℤ◌, ◌*ℤ◌}
use Rattle.std.proofs.lemmas.Int.{to_z-of_z}
use Rattle.lp_cert.specs.Program.{entry}
use Rattle.lp_core.proofs.Fits.{by_place}
use Rattle.lp_core.proofs.elimination.combined.Goals as goal

pub returns : goal.returns
returns c =
    by_place _ _ _ (λ k. c.args.factor *ℤ entry c.args.a k -ℤ c.args.times *ℤ entry c.args.b k) (grind (arith, to_z-of_z)) (grind (arith, to_z-of_z)) (grind (arith, to_z-of_z))
