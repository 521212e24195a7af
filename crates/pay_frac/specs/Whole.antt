-- Multiples of whole numbers.
use Rattle.std.specs.Prelude.{ℕ}
use Rattle.std.specs.Int.{◌∣◌}

-- m is the least common multiple: a common multiple that divides each other
pub record IsLcm (a b m : ℕ) : Type 0 where
  pub of_first : a ∣ m
  pub of_second : b ∣ m
  pub least : (k : ℕ) → a ∣ k → b ∣ k → m ∣ k
