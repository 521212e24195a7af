-- The largest value of a profile, and the first profile that has the largest of all.
use Rattle.std.specs.Prelude.{◌≡◌, ◌⊎◌, ℕ, ◌^◌, ◌<◌, ◌≤◌, All, ℤ, pos, ◌-ℤ◌, ◌*ℤ◌, ◌≤ℤ◌, ◌<ℤ◌, Option, Some, None}
use Rattle.std.specs.Int.RustNames.{unsigned_abs}
use Rattle.exact_algebra.specs.Quotients.{IsCeiling}
use Rattle.game_model.specs.Game.{counts, profile_count}
use Rattle.level_table.specs.Problem.{Problem}
use Rattle.level_table.specs.Levels.{Levels}
use Rattle.level_table.specs.Operator.{Admissible, value}
use Rattle.level_table.specs.Operator.{Fractions}
use Rattle.set_operator.specs.Boxes.{point_of}
use Rattle.set_operator.specs.declared.best.Best.{Best}

-- numbers that fit, with room for the cross products of values
pub record IsSmallBest (best : Best) : Type 0 where
  pub value_small : unsigned_abs best.value ≤ 2 ^ 103
  pub positive : pos 0 <ℤ best.point.den
  pub den_small : best.point.den ≤ℤ pos (2 ^ 20)
  pub num_small : All (λ x. unsigned_abs x ≤ 2 ^ 88) best.point.num

-- The point is admissible after the profile, and has the largest value of the profile: `value` over q * point.den.
pub record IsBestOf (p : Problem) (t : Levels) (s k a : ℕ) (best : Best) : Type 0 where
  pub profile_is : best.profile ≡ a
  pub admissible : Admissible p t s a (point_of best.point)
  pub here : value p s a k (point_of best.point) ≡ best.value
  pub largest : (z : Fractions) → Admissible p t s a z → (value p s a k z *ℤ best.point.den) ≤ℤ (best.value *ℤ z.denominator)
  pub small : IsSmallBest best

-- A profile with its largest value, which no admissible value of the profiles below n is above.
pub record IsLargestBelow (p : Problem) (t : Levels) (s k n : ℕ) (best : Best) : Type 0 where
  pub known : best.profile < profile_count (counts p.game s)
  pub best_of : IsBestOf p t s k best.profile best
  pub largest : (b : ℕ) (z : Fractions) → b < n → Admissible p t s b z → (value p s b k z *ℤ best.point.den) ≤ℤ (best.value *ℤ z.denominator)

-- the same, or none where the profiles below n admit nothing
abbrev pub IsLargestSoFar : Problem → Levels → ℕ → ℕ → ℕ → Option Best → Type 0
IsLargestSoFar p t s k n None = (a : ℕ) (y : Fractions) → a < n → Admissible p t s a y → ⊥
IsLargestSoFar p t s k n (Some best) = IsLargestBelow p t s k n best

-- the values of each earlier profile are less
abbrev pub IsEarliest : Problem → Levels → ℕ → ℕ → Option Best → Type 0
IsEarliest p t s k None = Unit {0}
IsEarliest p t s k (Some best) = (b : ℕ) (z : Fractions) → b < best.profile → Admissible p t s b z → (value p s b k z *ℤ best.point.den) <ℤ (best.value *ℤ z.denominator)

-- A profile with its largest value, which is the largest of all or reaches level x already: it is above x - 1.
pub record IsLeader (p : Problem) (t : Levels) (s k : ℕ) (x : ℤ) (best : Best) : Type 0 where
  pub known : best.profile < profile_count (counts p.game s)
  pub best_of : IsBestOf p t s k best.profile best
  pub leads : IsLargestBelow p t s k (profile_count (counts p.game s)) best ⊎ (((x -ℤ pos 1) *ℤ (pos p.game.q *ℤ best.point.den)) <ℤ best.value)

-- no admissible value of the profile is above this number over q
abbrev pub IsMost : Problem → Levels → ℕ → ℕ → ℕ → ℤ → Type 0
IsMost p t s k a most = (z : Fractions) → Admissible p t s a z → value p s a k z ≤ℤ (most *ℤ z.denominator)

-- the least whole number that is not below a best's value
abbrev pub IsCeilingOf : Problem → Best → ℤ → Type 0
IsCeilingOf p best level = IsCeiling best.value (pos p.game.q *ℤ best.point.den) level

-- no admissible value of the profile is above a best's
abbrev pub HasNoneAbove : Problem → Levels → ℕ → ℕ → ℕ → Best → Type 0
HasNoneAbove p t s k a best = (z : Fractions) → Admissible p t s a z → (value p s a k z *ℤ best.point.den) ≤ℤ (best.value *ℤ z.denominator)

-- there is a best, and it reaches level x: it is above x - 1
abbrev pub IsReached : Problem → ℤ → Option Best → Type 0
IsReached p x None = ⊥
IsReached p x (Some best) = ((x -ℤ pos 1) *ℤ (pos p.game.q *ℤ best.point.den)) <ℤ best.value
