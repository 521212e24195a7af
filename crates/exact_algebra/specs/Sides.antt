-- Two polynomials, and the values of their variables.
use Rattle.std.specs.Prelude.{ℤ, List}
use Rattle.exact_algebra.specs.Poly.{Poly}

pub record Sides : Type 0 where
  pub values : List ℤ
  pub left : Poly
  pub right : Poly
