-- A fraction with a positive denominator, and two whole numbers.
use Rattle.std.specs.Prelude.{ℤ}

pub record Rounding : Type 0 where
  pub num : ℤ
  pub den : ℤ
  pub rounded : ℤ
  pub other : ℤ
