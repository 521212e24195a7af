-- Which continuation payoffs a table of levels admits after a profile, and the row levels that follow (Judd, Yeltekin and Conklin 2003; one set of bounds for each state after Yeltekin, Cai and Judd 2017).
use Rattle.std.specs.Prelude.{◌≡◌, ℕ, ◌-◌, ◌*◌, ◌<◌, List, ℤ, pos, ◌+ℤ◌, ◌-ℤ◌, ◌*ℤ◌, ◌≤ℤ◌, ◌<ℤ◌}
use Rattle.level_table.specs.declared.level.Level.{Level}
use Rattle.level_table.specs.declared.level.Level.TheVariants.{Empty, At}
use Rattle.game_model.specs.Game.{counts, profile_count, payoff_at, successor, reached, IsDeviation}
use Rattle.game_model.specs.SelfGeneration.{part, sum_below, dot}
use Rattle.level_table.specs.Problem.{Problem, direction_count, direction, fineness, discount_at, minus_axis, gain}
use Rattle.level_table.specs.Levels.{Levels, IsNumber}

-- A vector of fractions: numerators over one positive denominator.
pub record Fractions : Type 0 where
  pub numerators : List ℤ
  pub denominator : ℤ

-- The vector stands for E * w, where w is the payoff that follows profile a of state s: the levels t admit it.
pub record Admissible (p : Problem) (t : Levels) (s a : ℕ) (y : Fractions) : Type 0 where
  pub positive : pos 0 <ℤ y.denominator
  -- No level of a state that the profile or a deviation from it reaches is Empty.
  pub next_known : (k : ℕ) → k < direction_count p → IsNumber (t (successor p.game s a) k)
  pub reached_known : (i b k : ℕ) → IsDeviation p.game s a i b → k < direction_count p → IsNumber (t (reached p.game s a i b) k)
  -- It is in each half-plane of the next state.
  pub half_planes : (k : ℕ) (x : ℤ) → k < direction_count p → t (successor p.game s a) k ≡ At x →
      dot p.game.players (direction p k) y.numerators ≤ℤ (x *ℤ y.denominator)
  -- No deviation gains if the worst point follows that the reached state's level allows.
  pub incentives : (i b : ℕ) (x : ℤ) → IsDeviation p.game s a i b → t (reached p.game s a i b) (minus_axis i) ≡ At x →
      ((gain p s a i b -ℤ x) *ℤ y.denominator) ≤ℤ part y.numerators i

-- The value of an admissible vector in direction k is this over `value_unit`: (1 - d_i) * payoff + d_i * (payoff that follows), times E, weighted by the direction.
abbrev pub value : Problem → ℕ → ℕ → ℕ → Fractions → ℤ
value p s a k y = sum_below (λ i. part (direction p k) i *ℤ ((pos ((p.game.q - discount_at p i) * p.game.base * fineness p) *ℤ payoff_at p.game s a i *ℤ y.denominator) +ℤ (pos (discount_at p i) *ℤ part y.numerators i))) p.game.players

abbrev pub value_unit : Problem → Fractions → ℤ
value_unit p y = pos p.game.q *ℤ y.denominator

-- some profile has an admissible vector whose value is greater than x
pub record HasValueAbove (p : Problem) (t : Levels) (s k : ℕ) (x : ℤ) : Type 0 where
  pub profile : ℕ
  pub vector : Fractions
  pub known : profile < profile_count (counts p.game s)
  pub admissible : Admissible p t s profile vector
  pub above : (x *ℤ value_unit p vector) <ℤ value p s profile k vector

-- some profile of the state has an admissible vector
pub record HasAdmissible (p : Problem) (t : Levels) (s : ℕ) : Type 0 where
  pub profile : ℕ
  pub vector : Fractions
  pub known : profile < profile_count (counts p.game s)
  pub admissible : Admissible p t s profile vector

-- The vector is admissible after the profile, no admissible value of the state is greater than its own, and each earlier profile's are less.
pub record IsFirstLargest (p : Problem) (t : Levels) (s k a : ℕ) (y : Fractions) : Type 0 where
  pub known : a < profile_count (counts p.game s)
  pub admissible : Admissible p t s a y
  pub largest : (b : ℕ) (z : Fractions) → b < profile_count (counts p.game s) → Admissible p t s b z → (value p s b k z *ℤ y.denominator) ≤ℤ (value p s a k y *ℤ z.denominator)
  pub first : (b : ℕ) (z : Fractions) → b < a → Admissible p t s b z → (value p s b k z *ℤ y.denominator) <ℤ (value p s a k y *ℤ z.denominator)

-- The row level is the least whole number that no admissible value is above, and Empty where no profile has an admissible vector.
abbrev pub IsRowLevel : Problem → Levels → ℕ → ℕ → Level → Type 0
IsRowLevel p t s k Empty = (a : ℕ) (y : Fractions) → a < profile_count (counts p.game s) → Admissible p t s a y → ⊥
IsRowLevel p t s k (At x) =
    ((a : ℕ) (y : Fractions) → a < profile_count (counts p.game s) → Admissible p t s a y → value p s a k y ≤ℤ (x *ℤ value_unit p y))
    × HasValueAbove p t s k (x -ℤ pos 1)
