-- A list of whole numbers that isn't empty, and a unit.
use Rattle.std.specs.Prelude.{ℤ, List}

pub record Values : Type 0 where
  pub first : ℤ
  pub rest : List ℤ
  pub unit : ℤ
