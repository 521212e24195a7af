-- A program, an objective, multipliers, a bound and a point.
use Rattle.std.specs.Prelude.{ℕ, ℤ, List}
use Rattle.lp_cert.specs.Program.{Program, Point}

pub record Case : Type 0 where
  pub program : Program
  pub objective : List ℤ
  pub items : List (ℕ × ℤ)
  pub num : ℤ
  pub den : ℤ
  pub point : Point
