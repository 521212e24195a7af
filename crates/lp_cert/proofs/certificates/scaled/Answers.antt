use Rattle.std.proofs.Common.{◌≡◌, ℕ, zero, suc, ◌<◌, List, [], ◌∷◌, arith}
use Rattle.std.specs.Prelude.{ℤ, ◌*ℤ◌}
use Rattle.std.proofs.lemmas.Int.{to_z-of_z}
use Rattle.lp_cert.specs.Program.{entry}
use Rattle.lp_cert.proofs.certificates.scaled.Goals as goal

by_place : (a b d n : ℤ) (xs : List ℤ) → a ≡ n *ℤ entry xs 0 → b ≡ n *ℤ entry xs 1 → d ≡ n *ℤ entry xs 2 → (k : ℕ) → k < 3 → entry (a ∷ b ∷ d ∷ []) k ≡ n *ℤ entry xs k
by_place a b d n xs p q r zero l = p
by_place a b d n xs p q r (suc zero) l = q
by_place a b d n xs p q r (suc (suc zero)) l = r
by_place a b d n xs p q r (suc (suc (suc k))) l = absurd (omega (arith, l))

pub returns : goal.returns
returns c = by_place _ _ _ c.args.den c.args.objective (grind (arith, to_z-of_z)) (grind (arith, to_z-of_z)) (grind (arith, to_z-of_z))
