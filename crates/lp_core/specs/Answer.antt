-- The optimum of a program, with its dual.
use Rattle.std.specs.Prelude.{◌≡◌, ℕ, ◌^◌, ◌≤◌, ℤ, pos, ◌<ℤ◌, List, ⊤, All}
use Rattle.std.specs.Int.RustNames.{unsigned_abs}
use Rattle.exact_algebra.specs.Sums.{dot}
use Rattle.lp_cert.specs.Program.{Program, Meets}
use Rattle.lp_cert.specs.Certificate.{ProvesBound, ProvesEmpty, AreSmall}
use Rattle.lp_core.specs.declared.Point.{Point}
use Rattle.lp_core.specs.declared.LpAnswer.{LpAnswer}
use Rattle.lp_core.specs.declared.LpAnswer.TheVariants.{Best, Infeasible}

-- the point meets the rows and has the value, and the dual proves that no point has more
pub record IsBestPoint (p : Program) (o : List ℤ) (point : Point) (value : ℤ) (items : List (ℕ × ℤ)) : Type 0 where
  pub meets : Meets p (record { num = point.num; den = point.den })
  pub reaches : dot o point.num ≡ value
  pub proves : ProvesBound p o items value point.den
  pub small : AreSmall items
  pub positive : All (λ item. pos 0 <ℤ item.1) items
  pub small_den : unsigned_abs point.den ≤ 2 ^ 20
  pub small_num : All (λ x. unsigned_abs x ≤ 2 ^ 88) point.num
  pub small_value : unsigned_abs value ≤ 2 ^ 102

-- multipliers that prove that no point meets the rows
pub record IsProof (p : Program) (items : List (ℕ × ℤ)) : Type 0 where
  pub proves : ProvesEmpty p items
  pub small : AreSmall items
  pub positive : All (λ item. pos 0 <ℤ item.1) items

abbrev pub IfBest : LpAnswer → (Point → ℤ → List (ℕ × ℤ) → Type 0) → Type 0
IfBest (Best point value dual) P = P point value dual.items
IfBest (Infeasible farkas) P = ⊤

abbrev pub IfInfeasible : LpAnswer → (List (ℕ × ℤ) → Type 0) → Type 0
IfInfeasible (Best point value dual) P = ⊤
IfInfeasible (Infeasible farkas) P = P farkas.items

abbrev pub IsInfeasible : LpAnswer → Type 0
IsInfeasible (Best point value dual) = ⊥
IsInfeasible (Infeasible farkas) = ⊤
