-- Items with weights and values, and a bound.
use Rattle.std.specs.Prelude.{ℤ, List}

pub record Average : Type 0 where
  pub items : List (ℤ × ℤ)
  pub bound : ℤ
